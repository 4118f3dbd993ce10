use Rattle.std.proofs.Common.{◌∙◌, sym, ap, map}
use Rattle.std.specs.Option.{is_some}
use Rattle.nal_term.proofs.ForCallers.{map-remove}
use Rattle.goal_store.specs.GoalRows.{port_row}
use Rattle.goal_store.proofs.HeldPorts.{port_place_of_key, port_of_key}
use Rattle.goal_store.proofs.goals.GoalStore.unbind.Goals as goal

pub returns-in-None-clause-had : goal.returns-in-None-clause-had
returns-in-None-clause-had c =
    let found = ap is_some (port_of_key c.self.inside.ports.entries c.args.principal.now) in
    rw (← c.self.view_is) (sym (found ∙ sym c.get_index_of.ensures.found ∙ ap is_some c.in-None.is))

pub returns-clause-had : goal.returns-clause-had
returns-clause-had c =
    let found = ap is_some (port_of_key c.self.inside.ports.entries c.args.principal.now) in
    rw (← c.self.view_is) (sym (found ∙ sym c.get_index_of.ensures.found ∙ ap is_some c.in-Some.is))

pub returns-clause-removed : goal.returns-clause-removed
returns-clause-removed c =
    let es = c.self.inside.ports.entries in
    let place = port_place_of_key es c.args.principal.now in
    rw (← c.self.view_is)
    (λ yes. (c.in-Some.row, place ∙ sym c.get_index_of.ensures.index ∙ c.in-Some.is, ap (map port_row) c.shift_remove_index-gone.ensures.entries ∙ map-remove port_row es c.in-Some.row))
