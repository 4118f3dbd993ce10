use Rattle.std.proofs.Common.{◌≡◌, ◌+◌, map, take}
use Rattle.nal_term.specs.Trees.{formula_tree}
use Rattle.policy_history.specs.Values.{entry_trees}
use Rattle.peer_labels.proofs.Saying.{IsCarried}
use Rattle.peer_labels.proofs.carrying.carry.Given as goal

abbrev pub invariant-loop-label : goal.invariant-loop-label
invariant-loop-label l = record {
  head : l.journal.head ≡ l.fn.journal.head;
  carried : IsCarried l.fn.journal.head l.session l.peer (entry_trees l.fn.journal.entries) (entry_trees l.journal.entries) (take l.label-index (map formula_tree l.bundle)) l.carried.done l.carried.refused;
  handled : l.carried.done + l.carried.refused ≡ l.label-index;
}
