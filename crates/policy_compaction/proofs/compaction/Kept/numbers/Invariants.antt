use Rattle.std.proofs.Common.{◌≡◌, ◌++◌, drop}
use Rattle.std.specs.List.{flat_map}
use Rattle.policy_history.specs.Values.{entry_trees}
use Rattle.policy_compaction.specs.Kept.{kept, kept_from, number_line, numbers_of, numbers_text}
use Rattle.policy_compaction.proofs.compaction.Kept.numbers.Given as goal

abbrev pub invariant-loop-index : goal.invariant-loop-index
invariant-loop-index l =
    let es = entry_trees l.entries in
    l.text ++ flat_map number_line (flat_map (numbers_of (kept es)) (kept_from l.index (drop l.index es))) ≡ numbers_text es
