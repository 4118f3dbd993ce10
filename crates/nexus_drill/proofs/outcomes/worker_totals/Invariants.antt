use Rattle.std.proofs.Common.{◌≡◌, ◌+◌}
use Rattle.std.specs.Prelude.{◌%◌, ◌^◌}
use Rattle.nexus_drill.specs.Draws.{state_after}
use Rattle.nexus_drill.specs.Drills.{is_goal_set, totals_of}
use Rattle.nexus_drill.proofs.outcomes.worker_totals.Given as goal

abbrev pub invariant-loop-place : goal.invariant-loop-place
invariant-loop-place l = (l.x ≡ state_after ((l.fn.number + l.fn.worker) % 2 ^ 64) l._place) × (l.is_set ≡ is_goal_set l.fn.number l.fn.worker l._place) × (l.sum ≡ totals_of l.fn.number l.fn.worker l._place)
