use Rattle.std.proofs.Common.{◌≡◌}
use Rattle.nexus_drill.specs.Draws.{state_after}
use Rattle.nexus_drill.specs.Inner.{AreLoaded, IsReady}
use Rattle.nexus_drill.proofs.core_load.take_all.Given as goal

abbrev pub invariant-loop-place : goal.invariant-loop-place
invariant-loop-place l = (l.x ≡ state_after l.fn.number l._place) × IsReady l.machine l.held × AreLoaded l.fn.number l.fn.machine l._place l.machine
