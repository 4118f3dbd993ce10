use Rattle.policy_history.specs.declared.events.Refusal.TheVariants.{NameTaken, ObjectsFull}
use Rattle.policy_history.proofs.Changed.{none_where, short_of}
use Rattle.policy_history.proofs.tables.Policy.new_object.Goals as goal

pub add-requires-clause-fresh : goal.add-requires-clause-fresh
add-requires-clause-fresh c =
    let k = rw c.in-Object.is at c.requires.copies in
    rw k (none_where _ (c.requires.accepted NameTaken))

pub add-requires-clause-bound : goal.add-requires-clause-bound
add-requires-clause-bound c = short_of 65536 _ (c.requires.accepted ObjectsFull)
