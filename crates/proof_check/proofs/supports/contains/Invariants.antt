use Rattle.std.proofs.Common.{ℕ, ◌<◌, ◌≡◌, slice_index_or}
use Rattle.nal_term.specs.Trees.{formula_tree}
use Rattle.nal_term.specs.declared.formulas.Formula.{Formula}
use Rattle.proof_check.proofs.supports.contains.Given as goal

abbrev pub invariant-loop-other : goal.invariant-loop-other
invariant-loop-other l = (k : ℕ) (d : Formula) → k < l.other-index → formula_tree (slice_index_or l.formulas k d) ≡ formula_tree l.formula → ⊥
