use Rattle.std.proofs.Common.{◌≡◌}
use Rattle.nexus_drill.specs.Drills.{totals}
use Rattle.nexus_drill.proofs.outcomes.drill_totals.Given as goal

abbrev pub invariant-loop-worker : goal.invariant-loop-worker
invariant-loop-worker l = l.sum ≡ totals l.fn.number l.worker l.fn.calls
