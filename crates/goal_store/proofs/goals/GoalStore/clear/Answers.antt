use Rattle.std.proofs.Common.{◌∙◌, sym, ap, subst}
use Rattle.std.specs.Option.{is_some}
use Rattle.nal_term.specs.Trees.{formula_tree}
use Rattle.goal_store.specs.Inner.Places.{AreHeld}
use Rattle.goal_store.proofs.HeldGoals.{goal_place_of_key, goal_of_key, goal_of_unknown, is_some-option_map, held-remove, rows-remove, rows_in}
use Rattle.goal_store.proofs.goals.GoalStore.clear.Goals as goal

pub returns-in-None-clause-had : goal.returns-in-None-clause-had
returns-in-None-clause-had c =
    let held = c.self.invariant in
    let none = sym c.get_index_of.ensures.index ∙ c.in-None.is in
    rw (← c.self.view_is) (ap is_some (sym (goal_of_unknown c.self.inside.ops.keys held.distinct c.self.inside.goals.entries held.places c.args.op.now c.args.object none)))

pub returns-in-None-get_index_of-clause-had : goal.returns-in-None-get_index_of-clause-had
returns-in-None-get_index_of-clause-had c =
    let held = c.self.invariant in
    let at = sym c.get_index_of.ensures.index ∙ c.in-Some.is in
    let found = ap is_some (goal_of_key c.self.inside.ops.keys held.distinct c.self.inside.goals.entries held.places c.args.op.now c.args.object c.in-Some.place at) in
    rw (← c.self.view_is) (sym (found ∙ is_some-option_map formula_tree _ ∙ sym c.get_index_of-2.ensures.found ∙ ap is_some c.in-None-get_index_of.is))

pub invariant_of-self : goal.invariant_of-self
invariant_of-self c =
    let ops = c.self.inside.ops.keys in
    let row = c.in-Some-get_index_of.row in
    subst (AreHeld ops) (sym c.shift_remove_index-gone.ensures.entries) (held-remove ops c.self.inside.goals.entries row c.self.invariant)

pub returns-clause-had : goal.returns-clause-had
returns-clause-had c =
    let held = c.self.invariant in
    let at = sym c.get_index_of.ensures.index ∙ c.in-Some.is in
    let found = ap is_some (goal_of_key c.self.inside.ops.keys held.distinct c.self.inside.goals.entries held.places c.args.op.now c.args.object c.in-Some.place at) in
    rw (← c.self.view_is) (sym (found ∙ is_some-option_map formula_tree _ ∙ sym c.get_index_of-2.ensures.found ∙ ap is_some c.in-Some-get_index_of.is))

pub returns-clause-removed : goal.returns-clause-removed
returns-clause-removed c =
    let held = c.self.invariant in
    let ops = c.self.inside.ops.keys in
    let es = c.self.inside.goals.entries in
    let row = c.in-Some-get_index_of.row in
    let at = sym c.get_index_of.ensures.index ∙ c.in-Some.is in
    let place = goal_place_of_key ops held.distinct es held.places c.args.op.now c.args.object c.in-Some.place at in
    rw (← c.self.view_is)
    (λ yes. (row, place ∙ sym c.get_index_of-2.ensures.index ∙ c.in-Some-get_index_of.is, ap (rows_in ops) c.shift_remove_index-gone.ensures.entries ∙ rows-remove ops es row))
