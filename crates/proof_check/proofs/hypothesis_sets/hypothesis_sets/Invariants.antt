use Rattle.std.proofs.Common.{◌≡◌, ℕ, ◌+◌, length}
use Rattle.proof_lines.specs.Lines.{line_trees}
use Rattle.proof_check.specs.Inner.LineSets.{column_of}
use Rattle.proof_check.specs.Inner.Rests.{IsColumnTo}
use Rattle.proof_check.proofs.hypothesis_sets.hypothesis_sets.Given as goal

abbrev pub invariant-loop-index : goal.invariant-loop-index
invariant-loop-index l = record {
  size : length l.sets.items ≡ l.index + 1;
  right : (h : ℕ) → IsColumnTo (line_trees l.proof) h (l.index + 1) (column_of l.sets.items h);
}
