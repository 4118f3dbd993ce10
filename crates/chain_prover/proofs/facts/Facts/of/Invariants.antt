use Rattle.std.proofs.Common.{◌≡◌, ◌<◌, ℕ, Some, map}
use Rattle.std.specs.List.{slice_get}
use Rattle.nal_term.specs.Trees.{FormulaTree, formula_tree}
use Rattle.chain_prover.specs.Inner.Knowing.{AreRight, Covers, labels_of, statement_of}
use Rattle.chain_prover.proofs.facts.Facts.of.Given as goal

abbrev pub invariant-loop-place : goal.invariant-loop-place
invariant-loop-place l =
    AreRight l.facts
    × (labels_of l.facts ≡ map formula_tree l.labels)
    × (statement_of l.facts ≡ formula_tree l.statement)
    × ((k : ℕ) → k < l.place → (label : FormulaTree) → slice_get (labels_of l.facts) k ≡ Some label → Covers l.facts label)
