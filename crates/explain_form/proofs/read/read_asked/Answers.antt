use Rattle.std.proofs.Common.{refl, sym, ap, ◌∙◌}
use Rattle.form_lines.proofs.ForCallers.{some_left}
use Rattle.text_lines.specs.Lines.{after_line, first_line}
use Rattle.explain_form.specs.ExplainForm.{end, further, question}
use Rattle.explain_form.proofs.read.read_asked.Goals as goal

pub returns-in-Err-Wrong-clause-wrong : goal.returns-in-Err-Wrong-clause-wrong
returns-in-Err-Wrong-clause-wrong c =
    let wrong = (rw c.in-Err-Wrong.field-0-is at c.in-Err-Wrong.ensures.wrong) (λ e. cc) in
    (1, refl, question (λ q l. wrong q (rw c.first_line.ensures.line l)))

pub returns-in-Err-Wrong-clause-refused : goal.returns-in-Err-Wrong-clause-refused
returns-in-Err-Wrong-clause-refused c = λ n other a.
    let wrong = (rw c.in-Err-Wrong.field-0-is at c.in-Err-Wrong.ensures.wrong) (λ e. cc) in
    wrong other (rw c.first_line.ensures.line a.question)

pub returns-then-not-is_text-clause-wrong : goal.returns-then-not-is_text-clause-wrong
returns-then-not-is_text-clause-wrong c =
    let last = c.first_line-2.ensures.line ∙ ap first_line c.first_line.ensures.rest in
    (2, refl, end c.in-Ok.question (rw c.first_line.ensures.line at c.in-Ok.ensures.ok) (λ e. let t = c.is_text.ensures.1 (last ∙ e) in absurd (cc (t, c.if-not-is_text.true))))

pub returns-then-not-is_empty-clause-wrong : goal.returns-then-not-is_empty-clause-wrong
returns-then-not-is_empty-clause-wrong c =
    let last = c.first_line-2.ensures.line ∙ ap first_line c.first_line.ensures.rest in (
      3,
      refl,
      further c.in-Ok.question (rw c.first_line.ensures.line at c.in-Ok.ensures.ok) (sym last ∙ c.is_text.ensures.0 c.if-not-is_text.false)
          (λ e. some_left c.first_line-2.result.1.now c.is_empty.result c.is_empty.ensures c.if-not-is_empty.true (c.first_line-2.ensures.rest ∙ ap after_line c.first_line.ensures.rest ∙ e)),
    )
