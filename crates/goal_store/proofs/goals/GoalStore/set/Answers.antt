use Rattle.std.specs.List.{list_any}
use Rattle.nal_term.specs.TreeKeys.{same_bytes}
use Rattle.goal_store.proofs.HeldGoals.{set_known, set_fresh, set_held}
use Rattle.goal_store.proofs.goals.GoalStore.set.Goals as goal

pub invariant_of-self : goal.invariant_of-self
invariant_of-self c =
    let placed = c.unwrap-place.ensures in
    let ops = c.insert_full.ensures in
    let keys = rw placed at ops.keys in
    let stored = rw placed at ops.stored in
    let put = c.unwrap.ensures in
    let entries = c.insert.ensures.entries in
    let entries = rw put at entries in
    set_held c.self.inside.ops.keys c.insert_full.new.self.keys (list_any (same_bytes c.args.op) c.self.inside.ops.keys) c.args.op keys ops.unique
    c.self.inside.goals.entries c.self.invariant.places c.args.object c.unwrap-place.result.0 stored c.args.goal c.insert.new.self.entries entries

pub returns-clause-known : goal.returns-clause-known
returns-clause-known c =
    let placed = c.unwrap-place.ensures in
    let ops = c.insert_full.ensures in
    let keys = rw placed at ops.keys in
    let stored = rw placed at ops.stored in
    let put = c.unwrap.ensures in
    let entries = c.insert.ensures.entries in
    let entries = rw put at entries in
    rw (← c.self.view_is)
    (set_known c.self.inside.ops.keys c.insert_full.new.self.keys (list_any (same_bytes c.args.op) c.self.inside.ops.keys) c.args.op keys ops.unique
    c.self.inside.goals.entries c.self.invariant.places c.args.object c.unwrap-place.result.0 stored c.args.goal c.insert.new.self.entries entries)

pub returns-clause-fresh : goal.returns-clause-fresh
returns-clause-fresh c =
    let placed = c.unwrap-place.ensures in
    let ops = c.insert_full.ensures in
    let keys = rw placed at ops.keys in
    let stored = rw placed at ops.stored in
    let put = c.unwrap.ensures in
    let entries = c.insert.ensures.entries in
    let entries = rw put at entries in
    rw (← c.self.view_is)
    (set_fresh c.self.inside.ops.keys c.insert_full.new.self.keys (list_any (same_bytes c.args.op) c.self.inside.ops.keys) c.args.op keys ops.unique
    c.self.inside.goals.entries c.self.invariant.places c.args.object c.unwrap-place.result.0 stored c.args.goal c.insert.new.self.entries entries)
