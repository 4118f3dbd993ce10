use Rattle.std.proofs.Common.{◌≡◌}
use Rattle.nexus_drill.specs.Drills.{drill_principal}
use Rattle.service_drill.specs.Runs.{each}
use Rattle.service_drill.proofs.stage.principals.Given as goal

abbrev pub invariant-loop-worker : goal.invariant-loop-worker
invariant-loop-worker l = l.principals ≡ each l.worker drill_principal
