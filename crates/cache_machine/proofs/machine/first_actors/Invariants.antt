use Rattle.std.proofs.Common.{map}
use Rattle.cache_machine.specs.Views.{actor_tree}
use Rattle.cache_machine.proofs.Starting.{IsBegun}
use Rattle.cache_machine.proofs.machine.first_actors.Given as goal

abbrev pub invariant-loop-principal : goal.invariant-loop-principal
invariant-loop-principal l = IsBegun l.last l.principals (map actor_tree l.actors.items) l.session l.principal-index
