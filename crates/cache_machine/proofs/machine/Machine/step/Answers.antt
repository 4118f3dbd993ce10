use Rattle.cache_machine.specs.Machines.{MachineValue}
use Rattle.cache_machine.specs.Views.{act_tree, move_tree, state_of, step_tree}
use Rattle.cache_machine.proofs.Stepping.{err_state, step_doable, step_left, stepped, unstepped}
use Rattle.cache_machine.proofs.machine.Machine.step.Goals as goal

pub take-requires-clause-may : goal.take-requires-clause-may
take-requires-clause-may c = step_doable (state_of c.self.inside.world) c.self.invariant c.args.step.now.actor (act_tree c.args.step.now.act) (move_tree c.in_ok-planned.planned) c.in_ok-planned.ensures

pub invariant_of-self : goal.invariant_of-self
invariant_of-self c =
    step_left (state_of c.self.inside.world) (state_of c.take.new.self) c.self.invariant c.args.step.now.actor (act_tree c.args.step.now.act) (move_tree c.in_ok-planned.planned) c.in_ok-planned.ensures
    c.take.result c.take.ensures.state (err_state _ _ _ c.take.result c.take.ensures.err)

pub returns : goal.returns
returns c =
    let inside : MachineValue = record { world = c.self.inside.world; told = c.self.inside.told; idle = c.self.inside.idle } in
    let new : MachineValue = record { world = c.take.new.self; told = c.take.new.told; idle = c.take.new.idle } in
    record {
      step = stepped c.args.self.now inside new c.self.invariant c.self.view_is (step_tree c.args.step.now) (move_tree c.in_ok-planned.planned) c.in_ok-planned.ensures c.take.result c.take.ensures.state c.take.ensures.told c.take.ensures.idle;
      err = unstepped c.args.self.now inside new c.self.view_is c.take.result c.take.ensures.err;
    }
