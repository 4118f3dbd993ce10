use Rattle.std.proofs.Common.{◌≡◌, ◌+◌, ℕ, Some, length}
use Rattle.std.specs.List.{slice_get}
use Rattle.proof_lines.specs.Lines.{LineTree, line_trees}
use Rattle.nal_rules.specs.Asking.{case_tree}
use Rattle.policy_history.specs.Values.{entry_trees}
use Rattle.case_reasons.specs.LineReasons.{IsLineReason}
use Rattle.case_reasons.specs.declared.lines.LineReason.{LineReason}
use Rattle.case_reasons.proofs.lines.Judged.reasons_of.Given as goal

abbrev pub invariant-loop-index : goal.invariant-loop-index
invariant-loop-index l = record {
  count : length l.reasons.items ≡ l.index;
  each : (i : ℕ) (line : LineTree) (reason : LineReason) → slice_get (line_trees l.proof) i ≡ Some line → slice_get l.reasons.items i ≡ Some reason
      → IsLineReason l.self.journal.now.head (entry_trees l.self.journal.now.entries) l.self.principal (case_tree l.self.case.now) l.self.answers.now (line_trees l.proof) (i + 1) line reason;
}
