use Rattle.std.proofs.Common.{◌≡◌, length, map}
use Rattle.service_drill.specs.Runs.{door_of, each}
use Rattle.service_drill.specs.Inner.{view_of}
use Rattle.service_drill.proofs.stage.doors.Given as goal

abbrev pub invariant-loop-worker : goal.invariant-loop-worker
invariant-loop-worker l = (map view_of l.doors.items ≡ each l.worker (door_of l.fn.number l.fn.calls)) × (length l.doors.items ≡ l.worker)
