use Rattle.std.proofs.Common.{◌≡◌, IfOk, subst}
use Rattle.policy_history.specs.Values.{entry_trees}
use Rattle.cache_machine.specs.Machines.{MachineValue, state_in}
use Rattle.cache_machine.specs.States.{MachineState}
use Rattle.nexus_drill.proofs.Loading.{alice_below, start_is}
use Rattle.nexus_drill.proofs.core_load.start.Goals as goal

pub new-requires-clause-principals : goal.new-requires-clause-principals
new-requires-clause-principals c = alice_below c.in_ok-opening.field-0.head c.in_ok-actors.actors.items c.in_ok-opening.ensures.head c.in_ok-actors.ensures

pub returns-clause-state : goal.returns-clause-state
returns-clause-state c =
    subst (λ (s : MachineState). IfOk c.new.result (λ (machine : MachineValue). state_in machine ≡ s))
    (start_is c.in_ok-opening.field-0.head (entry_trees c.in_ok-opening.field-0.entries) c.in_ok-actors.actors.items c.in_ok-opening.ensures.head c.in_ok-opening.ensures.entries c.in_ok-actors.ensures) c.new.ensures.state
