use Rattle.std.proofs.Common.{arith}
use Rattle.policy_history.specs.Values.{entry_trees}
use Rattle.audit_check.proofs.Ordered.{all_right, first_wrong}
use Rattle.audit_check.proofs.audits.audit.Goals as goal

pub returns-then-lowest-len : goal.returns-then-lowest-len
returns-then-lowest-len c =
    let low = c.in_ok-lowest.ensures in
    first_wrong c.args.journal.now.head (entry_trees c.args.journal.now.entries) c.args.records.now.items c.in_ok-lowest.lowest
    (rw c.as_slice-2.ensures.value at low.wrong (omega (arith, c.if-lowest-len.true, c.len.ensures)))
    (rw c.as_slice-2.ensures.value at low.right)

pub returns : goal.returns
returns c =
    let low = c.in_ok-lowest.ensures in
    all_right c.args.journal.now.head (entry_trees c.args.journal.now.entries) c.args.records.now.items c.in_ok-lowest.lowest (omega (arith, c.if-lowest-len.false, c.len.ensures))
    (rw c.as_slice-2.ensures.value at low.right)
