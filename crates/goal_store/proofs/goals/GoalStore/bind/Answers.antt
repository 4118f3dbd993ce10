use Rattle.goal_store.proofs.HeldPorts.{bind_known, bind_fresh}
use Rattle.goal_store.proofs.goals.GoalStore.bind.Goals as goal

pub returns-clause-known : goal.returns-clause-known
returns-clause-known c =
    let put = c.unwrap.ensures in
    let entries = c.insert.ensures.entries in
    let entries = rw put at entries in
    rw (← c.self.view_is) (bind_known c.self.inside.ports.entries c.args.principal c.args.port c.insert.new.self.entries entries)

pub returns-clause-fresh : goal.returns-clause-fresh
returns-clause-fresh c =
    let put = c.unwrap.ensures in
    let entries = c.insert.ensures.entries in
    let entries = rw put at entries in
    rw (← c.self.view_is) (bind_fresh c.self.inside.ports.entries c.args.principal c.args.port c.insert.new.self.entries entries)
