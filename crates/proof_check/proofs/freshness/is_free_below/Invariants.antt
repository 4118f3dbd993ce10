use Rattle.std.proofs.Common.{◌≡◌, ℕ, ◌+◌, ◌*◌, ◌<◌, ◌≤◌, Some, true}
use Rattle.nal_term.specs.Free.{is_free_in}
use Rattle.nal_term.specs.Trees.{FormulaTree}
use Rattle.proof_lines.specs.Lines.{line_trees}
use Rattle.nal_rules.specs.Faults.{RestsOn, formula_at}
use Rattle.proof_check.specs.Sizes.{greatest_in}
use Rattle.proof_check.proofs.freshness.is_free_below.Given as goal

abbrev pub invariant-loop-hypothesis : goal.invariant-loop-hypothesis
invariant-loop-hypothesis g l = record {
  none : (h : ℕ) → h < l.hypothesis → RestsOn (line_trees l.proof) l.number h → (l.discharged ≡ Some h → ⊥)
      → (f : FormulaTree) × (formula_at (line_trees l.proof) h ≡ Some f) × (is_free_in l.x f ≡ true) → ⊥;
  least : l.initial.steps ≤ l.steps;
  most : l.steps ≤ l.initial.steps + l.hypothesis * greatest_in (line_trees l.proof);
}
