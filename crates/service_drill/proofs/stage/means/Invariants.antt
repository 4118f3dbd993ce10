use Rattle.std.proofs.Common.{◌≡◌, length}
use Rattle.service_drill.specs.Runs.{each, silent}
use Rattle.service_drill.proofs.stage.means.Given as goal

abbrev pub invariant-loop-worker : goal.invariant-loop-worker
invariant-loop-worker l = (l.means.items ≡ each l._worker silent) × (length l.means.items ≡ l._worker)
