use Rattle.policy_script.proofs.Scripts.{asking_error, bad_policy, refused_policy}
use Rattle.policy_script.proofs.input.read_script.Goals as goal

pub returns-in-Err-Bad-clause-wrong : goal.returns-in-Err-Bad-clause-wrong
returns-in-Err-Bad-clause-wrong c =
    rw c.in-Err-Bad.field-0-is (bad_policy c.args.text.now c.in-Err-Bad.line (rw c.in-Err-Bad.field-0-is at c.in-Err-Bad.ensures.err))

pub returns-in-Err-Refused-clause-wrong : goal.returns-in-Err-Refused-clause-wrong
returns-in-Err-Refused-clause-wrong c =
    rw c.in-Err-Refused.field-0-is (refused_policy c.args.text.now c.in-Err-Refused.line c.in-Err-Refused.field-0-1 (rw c.in-Err-Refused.field-0-is at c.in-Err-Refused.ensures.err))

pub returns-in-Err-clause-wrong : goal.returns-in-Err-clause-wrong
returns-in-Err-clause-wrong c = asking_error c.args.text.now _ _ c.in-Ok.field-0.lines c.in-Ok.field-0.rest.now c.in-Err.error c.in-Ok.ensures.ok c.in-Err.ensures.wrong
