use Rattle.std.proofs.Common.{◌≡◌}
use Rattle.std.specs.Prelude.{take}
use Rattle.session_wire.specs.Frames.{request_frames}
use Rattle.nexus_drill.specs.Drills.{first_requests}
use Rattle.nexus_drill.proofs.worker_frames.first_frames.Given as goal

abbrev pub invariant-loop-place : goal.invariant-loop-place
invariant-loop-place l = l.frames ≡ request_frames (take l.place (first_requests l.fn.worker))
