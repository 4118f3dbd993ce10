use Rattle.std.proofs.Common.{◌≡◌, ◌++◌, drop, map}
use Rattle.std.specs.List.{All, flat_map}
use Rattle.journal_text.specs.PolicyLaws.{IsKeptEntry}
use Rattle.policy_history.specs.PolicyTexts.{line_of}
use Rattle.policy_history.specs.Values.{entry_trees}
use Rattle.policy_compaction.specs.Kept.{compacted, kept, kept_from, moved}
use Rattle.policy_compaction.proofs.compaction.Kept.print_entries.Given as goal

abbrev pub invariant-loop-index : goal.invariant-loop-index
invariant-loop-index l =
    let es = entry_trees l.entries in
    let rest = map (moved (kept es)) (kept_from l.index (drop l.index es)) in
    record {
      text : l.printer.text ++ flat_map (line_of l.self.journal.now.head) rest ≡ l.fn.printer.text ++ flat_map (line_of l.self.journal.now.head) (compacted es);
      kept : All IsKeptEntry rest → All IsKeptEntry (compacted es);
    }
