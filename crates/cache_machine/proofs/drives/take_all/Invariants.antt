use Rattle.std.proofs.Common.{map, take}
use Rattle.cache_machine.specs.Machines.{AreTaken}
use Rattle.cache_machine.specs.Views.{step_tree}
use Rattle.cache_machine.proofs.drives.take_all.Given as goal

abbrev pub invariant-loop-step : goal.invariant-loop-step
invariant-loop-step l = AreTaken l.fn.machine (map step_tree (take l.step-index l.steps)) l.machine
