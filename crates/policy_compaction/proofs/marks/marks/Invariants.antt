use Rattle.std.proofs.Common.{◌≡◌, drop, length}
use Rattle.policy_history.specs.Values.{entry_trees}
use Rattle.policy_compaction.specs.Inner.Marking.{AreUndone, marks_from}
use Rattle.policy_compaction.proofs.marks.marks.Given as goal

abbrev pub invariant-loop-index : goal.invariant-loop-index
invariant-loop-index l = record {
  long : length l.marks.items ≡ length l.entries;
  done : drop l.index l.marks.items ≡ marks_from l.index (drop l.index (entry_trees l.entries));
  undone : AreUndone l.undone.keys (drop l.index (entry_trees l.entries));
}
