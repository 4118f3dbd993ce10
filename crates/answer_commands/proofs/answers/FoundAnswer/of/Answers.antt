use Rattle.std.proofs.Common.{[], sym, ◌∙◌}
use Rattle.input_flaws.specs.LineFlaws.{IsFlawAt}
use Rattle.prove_form.specs.ProveForm.{IsWrongLine}
use Rattle.answer_commands.specs.Proves.{HasProveForm, formula_words}
use Rattle.answer_commands.proofs.Wrongs.{line_wrong_by}
use Rattle.answer_commands.proofs.answers.FoundAnswer.of.Goals as goal

pub returns-in-Err-Wrong-clause-wrong : goal.returns-in-Err-Wrong-clause-wrong
returns-in-Err-Wrong-clause-wrong c =
    let is = c.in-Err-Wrong.field-0-is in
    let wrong = rw is at c.in-Err-Wrong.ensures.wrong in
    rw c.by.ensures
    (line_wrong_by HasProveForm IsWrongLine (IsFlawAt formula_words []) c.args.text.now c.in-Err-Wrong.line c.flaw_at.result wrong c.flaw_at.ensures
    (λ has. c.in-Err-Wrong.ensures.refused (λ m. cc (sym is ∙ m)) has.0 has.1))
