use Rattle.std.proofs.Common.{◌≡◌, ◌-◌, map, drop}
use Rattle.nal_term.specs.Trees.{formula_tree}
use Rattle.label_store.specs.LabelRows.{rows, labels_of}
use Rattle.label_store.proofs.labels.LabelStore.label.Given as goal

abbrev pub invariant-loop : goal.invariant-loop
invariant-loop l = map formula_tree l.labels ≡ drop (l.counter - 1) (labels_of (rows l.self) l.holder)
