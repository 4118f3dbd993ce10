use Rattle.std.proofs.Common.{◌≡◌, false}
use Rattle.run_rows.proofs.days.show_replies.Given as goal

abbrev pub invariant-loop : goal.invariant-loop
invariant-loop l = l.link.closed ≡ false
