use Rattle.std.proofs.Common.{◌≡◌, true, replicate}
use Rattle.audit_check.proofs.right_answers.yes_then.Given as goal

abbrev pub invariant-loop : goal.invariant-loop
invariant-loop l = l.given ≡ replicate l.counter true
