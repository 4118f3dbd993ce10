use Rattle.proof_lines.specs.Lines.{line_trees}
use Rattle.nal_rules.specs.Asking.{case_tree}
use Rattle.audit_check.proofs.Settled.{right_decided, right_open}
use Rattle.audit_check.proofs.judging.is_right_of.Goals as goal

pub returns-in-Ok : goal.returns-in-Ok
returns-in-Ok c =
    let r = right_open (case_tree c.args.case.now) (line_trees c.in-Ok.proof.now) c.in-Ok.ensures.open c.args.answers.now c.args.verdict in
    ((λ t. r.1 (c.is_right_open.ensures.0 t)), λ h. c.is_right_open.ensures.1 (r.0 h))

pub returns-then-is_denial : goal.returns-then-is_denial
returns-then-is_denial c =
    let r = right_decided (case_tree c.args.case.now) c.in-Err.cause c.in-Err.ensures.denied c.args.answers.now c.args.verdict in
    ((λ t. r.1 (c.is_denial.ensures.0 c.if-is_denial.true, c.may_be_yes.ensures.0 t)), λ h. c.may_be_yes.ensures.1 (r.0 h).1)

pub returns-else-is_denial : goal.returns-else-is_denial
returns-else-is_denial c =
    let r = right_decided (case_tree c.args.case.now) c.in-Err.cause c.in-Err.ensures.denied c.args.answers.now c.args.verdict in
    ((λ t. let no = c.if-is_denial.false in absurd (cc (t, no))), λ h. c.is_denial.ensures.1 (r.0 h).0)
