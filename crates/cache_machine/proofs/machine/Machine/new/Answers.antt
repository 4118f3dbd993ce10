use Rattle.std.proofs.Common.{length, map, subst, sym}
use Rattle.policy_history.specs.Values.{entry_trees}
use Rattle.cache_machine.specs.Views.{actor_tree}
use Rattle.cache_machine.specs.Inner.Words.{IsWorded}
use Rattle.cache_machine.proofs.Starting.{first_worded, made_first, trees_length}
use Rattle.cache_machine.proofs.machine.Machine.new.Goals as goal

pub invariant_of-result : goal.invariant_of-result
invariant_of-result c =
    let made = c.in-Ok.ensures in
    subst IsWorded
    (made_first c.args.journal.head (entry_trees c.args.journal.entries) c.args.actors.now.items c.in-Ok.field-0.slots.items c.in-Ok.field-0.regions.items (map actor_tree c.in-Ok.field-0.actors.items)
    (length c.args.journal.entries) made.slots made.regions (trees_length c.args.journal.entries) made.actors)
    (first_worded c.args.journal.head (entry_trees c.args.journal.entries) c.args.actors.now.items c.requires.principals)

pub returns-in-Ok-clause-state : goal.returns-in-Ok-clause-state
returns-in-Ok-clause-state c =
    let made = c.in-Ok.ensures in
    sym
    (made_first c.args.journal.head (entry_trees c.args.journal.entries) c.args.actors.now.items c.in-Ok.field-0.slots.items c.in-Ok.field-0.regions.items (map actor_tree c.in-Ok.field-0.actors.items)
    (length c.args.journal.entries) made.slots made.regions (trees_length c.args.journal.entries) made.actors)
