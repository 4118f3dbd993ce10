use Rattle.answer_commands.specs.Inner.Forms.{form_of}
use Rattle.answer_commands.proofs.Inputs.{answer_error}
use Rattle.answer_commands.proofs.checks.VerdictAnswer.of.Goals as goal

pub returns-in-Ok-judge-clause-formed : goal.returns-in-Ok-judge-clause-formed
returns-in-Ok-judge-clause-formed c = (form_of c.in-Ok.input, c.in-Ok.ensures.ok)

pub returns-in-Ok-judge-clause-told : goal.returns-in-Ok-judge-clause-told
returns-in-Ok-judge-clause-told c = (form_of c.in-Ok.input, c.in-Ok.ensures.ok, c.in-Ok-judge.ensures.verdict, c.in-Ok-judge.ensures.justified)

pub returns-clause-wrong : goal.returns-clause-wrong
returns-clause-wrong c = answer_error c.in-Err.error c.in-Err.ensures.wrong c.in-Err.ensures.refused
