use Rattle.std.proofs.Common.{◌≡◌}
use Rattle.label_store.specs.Held.{held_from}
use Rattle.label_store.proofs.rows.next_held.Given as goal

abbrev pub invariant-loop-index : goal.invariant-loop-index
invariant-loop-index l = held_from l.rows.entries l.holder l.first ≡ held_from l.rows.entries l.holder l.index
