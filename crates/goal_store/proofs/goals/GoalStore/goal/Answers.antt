use Rattle.std.proofs.Common.{◌∙◌, sym, ap}
use Rattle.std.specs.Option.{option_map}
use Rattle.nal_term.specs.Trees.{formula_tree}
use Rattle.goal_store.proofs.HeldGoals.{goal_of_key, goal_of_unknown}
use Rattle.goal_store.proofs.goals.GoalStore.goal.Goals as goal

pub returns-in-None : goal.returns-in-None
returns-in-None c =
    let held = c.self.invariant in
    let none = sym c.get_index_of.ensures.index ∙ c.in-None.is in
    rw (← c.self.view_is) (sym (goal_of_unknown c.self.inside.ops.keys held.distinct c.self.inside.goals.entries held.places c.args.op.now c.args.object none))

pub returns : goal.returns
returns c =
    let held = c.self.invariant in
    let at = sym c.get_index_of.ensures.index ∙ c.in-Some.is in
    let found = goal_of_key c.self.inside.ops.keys held.distinct c.self.inside.goals.entries held.places c.args.op.now c.args.object c.in-Some.place at in
    rw (← c.self.view_is) (ap (option_map formula_tree) c.get.ensures.value ∙ sym found)
