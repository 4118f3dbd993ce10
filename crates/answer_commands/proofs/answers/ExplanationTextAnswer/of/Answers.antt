use Rattle.std.proofs.Common.{sym, ◌∙◌}
use Rattle.explain_form.specs.ExplainForm.{IsWrongLine}
use Rattle.answer_commands.specs.Explains.{HasExplainForm}
use Rattle.answer_commands.specs.Headed.{IsHeadedFlaw}
use Rattle.answer_commands.proofs.Wrongs.{line_wrong_by}
use Rattle.answer_commands.proofs.answers.ExplanationTextAnswer.of.Goals as goal

pub returns-in-Ok-clause-formed : goal.returns-in-Ok-clause-formed
returns-in-Ok-clause-formed c = (c.in-Ok.ensures.ok.form, c.in-Ok.ensures.ok.formed)

pub returns-in-Err-Wrong-clause-wrong : goal.returns-in-Err-Wrong-clause-wrong
returns-in-Err-Wrong-clause-wrong c =
    let is = c.in-Err-Wrong.field-0-is in
    let wrong = rw is at c.in-Err-Wrong.ensures.wrong in
    rw c.by.ensures
    (line_wrong_by HasExplainForm IsWrongLine IsHeadedFlaw c.args.text.now c.in-Err-Wrong.line c.headed_flaw.result wrong c.headed_flaw.ensures
    (λ has. c.in-Err-Wrong.ensures.refused (λ m. cc (sym is ∙ m)) has.0 has.1))
