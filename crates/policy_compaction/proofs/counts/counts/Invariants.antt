use Rattle.std.proofs.Common.{◌≡◌, ◌≤◌, ◌++◌, drop}
use Rattle.policy_compaction.specs.Inner.Marking.{counts_from}
use Rattle.policy_compaction.proofs.counts.counts.Given as goal

abbrev pub invariant-loop-mark : goal.invariant-loop-mark
invariant-loop-mark l = record {
  count : l.count ≤ l.mark-index;
  rest : l.counts.items ++ counts_from l.count (drop l.mark-index l.marks) ≡ counts_from 0 l.marks;
}
