use Rattle.std.proofs.Common.{◌≡◌, sym, ◌∙◌, arith}
use Rattle.policy_history.specs.Values.{entry_trees}
use Rattle.text_lines.specs.Lines.{first_line}
use Rattle.explain_form.specs.ExplainForm.{header, in_policy}
use Rattle.explain_form.proofs.Reading.{asked_error, other_asked}
use Rattle.explain_form.proofs.read.read_explain.Goals.{Else-not-is_text}
use Rattle.explain_form.proofs.read.read_explain.Goals as goal

-- the text begins with the first line of an input
first : (c : Else-not-is_text) → first_line c.args.text.now ≡ header
first c = sym c.first_line.ensures.line ∙ c.is_text.ensures.0 c.if-not-is_text.false

pub returns-in-Ok-read_asked-clause-ok : goal.returns-in-Ok-read_asked-clause-ok
returns-in-Ok-read_asked-clause-ok c =
    let d = (goal.at.returns-in-Ok-read_asked-clause-ok c).Else-not-is_text in
    record {
      first = first d;
      lines = c.in-Ok.field-0.lines;
      rest = c.in-Ok.field-0.rest.now;
      policy = rw c.first_line.ensures.rest at c.in-Ok.ensures.ok;
      asked = c.in-Ok-read_asked.ensures.ok;
    }

pub returns-in-Err-Wrong-clause-wrong : goal.returns-in-Err-Wrong-clause-wrong
returns-in-Err-Wrong-clause-wrong c =
    let d = (goal.at.returns-in-Err-Wrong-clause-wrong c).Else-not-is_text in
    let w = rw c.first_line.ensures.rest at (rw c.in-Err-Wrong.field-0-is at c.in-Err-Wrong.ensures.wrong) in
    let number = w.2 in
    in_policy w.0 (first d) w.1 (omega (arith, number))

pub returns-in-Err-clause-wrong : goal.returns-in-Err-clause-wrong
returns-in-Err-clause-wrong c =
    let d = (goal.at.returns-in-Err-clause-wrong c).Else-not-is_text in
    let front = c.in-Ok.field-0 in
    asked_error c.args.text.now front.journal.head (entry_trees front.journal.entries) front.lines front.rest.now c.in-Err.error (first d)
    (rw c.first_line.ensures.rest at c.in-Ok.ensures.ok) c.in-Err.ensures.wrong

pub returns-in-Err-clause-refused : goal.returns-in-Err-clause-refused
returns-in-Err-clause-refused c = λ n.
    let front = c.in-Ok.field-0 in
    other_asked c.args.text.now front.journal.head (entry_trees front.journal.entries) front.lines front.rest.now (rw c.first_line.ensures.rest at c.in-Ok.ensures.only) (c.in-Err.ensures.refused n)
