use Rattle.std.proofs.Common.{◌∙◌, sym}
use Rattle.goal_store.proofs.HeldPorts.{port_of_key}
use Rattle.goal_store.proofs.goals.GoalStore.port.Goals as goal

pub returns-in-Some : goal.returns-in-Some
returns-in-Some c =
    let found = c.in-Some.is in
    let value = c.get.ensures.value in
    let value = rw found at value in
    rw (← c.self.view_is) (value ∙ sym (port_of_key c.self.inside.ports.entries c.args.principal.now))

pub returns-in-None : goal.returns-in-None
returns-in-None c =
    let found = c.in-None.is in
    let value = c.get.ensures.value in
    let value = rw found at value in
    rw (← c.self.view_is) (value ∙ sym (port_of_key c.self.inside.ports.entries c.args.principal.now))
