use Rattle.std.proofs.Common.{◌≡◌, ◌+◌}
use Rattle.std.specs.Prelude.{◌%◌, ◌^◌}
use Rattle.nexus_drill.specs.Draws.{state_after}
use Rattle.nexus_drill.specs.Drills.{frames_of, is_goal_set}
use Rattle.nexus_drill.proofs.worker_frames.drill_frames.Given as goal

abbrev pub invariant-loop-place : goal.invariant-loop-place
invariant-loop-place l = (l.x ≡ state_after ((l.fn.number + l.fn.worker) % 2 ^ 64) l._place) × (l.is_set ≡ is_goal_set l.fn.number l.fn.worker l._place) × (l.frames ≡ frames_of l.fn.number l.fn.worker l._place)
