use Rattle.std.proofs.Common.{arith, refl}
use Rattle.audit_form.proofs.Reading.{bad_line, bad_policy, refused_line, refused_policy}
use Rattle.audit_form.proofs.read.read_policy.Goals as goal

pub overflow_add-result : goal.overflow_add-result
overflow_add-result c = let few = bad_line c.args.text.now c.in-Err-Bad.line (rw c.in-Err-Bad.field-0-is at c.in-Err-Bad.ensures.err) in omega (arith, few, c.requires)

pub returns-in-Err-Bad-clause-wrong : goal.returns-in-Err-Bad-clause-wrong
returns-in-Err-Bad-clause-wrong c = (c.in-Err-Bad.line, bad_policy c.args.text.now c.in-Err-Bad.line (rw c.in-Err-Bad.field-0-is at c.in-Err-Bad.ensures.err), refl)

pub overflow_add-result-in-Err-Refused : goal.overflow_add-result-in-Err-Refused
overflow_add-result-in-Err-Refused c =
    let few = refused_line c.args.text.now c.in-Err-Refused.line c.in-Err-Refused.field-0-1 (rw c.in-Err-Refused.field-0-is at c.in-Err-Refused.ensures.err) in omega (arith, few, c.requires)

pub returns-in-Err-Refused-clause-wrong : goal.returns-in-Err-Refused-clause-wrong
returns-in-Err-Refused-clause-wrong c =
    (c.in-Err-Refused.line, refused_policy c.args.text.now c.in-Err-Refused.line c.in-Err-Refused.field-0-1 (rw c.in-Err-Refused.field-0-is at c.in-Err-Refused.ensures.err), refl)
