use Rattle.std.proofs.Common.{◌-◌, ℕ, List, length}
use Rattle.nal_term.specs.Trees.{FormulaTree, TermTree, formula_tree}
use Rattle.proof_lines.specs.Lines.{line_trees}
use Rattle.chain_prover.specs.Inner.Paths.{IsPath}
use Rattle.chain_prover.proofs.Along.{IsAlong}
use Rattle.chain_prover.proofs.lines.proof_of.Given as goal

-- along each path from the first node the lines so far are those of a chain to the node at the place
abbrev pub invariant-loop-proof : goal.invariant-loop-proof
invariant-loop-proof l =
    (labels : List FormulaTree) (b : TermTree) (n : ℕ) → IsPath labels (formula_tree l.statement) b l.path.nodes.items l.path.first n
    → IsAlong labels (formula_tree l.statement) l.path.nodes.items l.place (line_trees l.proof) n

abbrev pub decreases-loop-proof : goal.decreases-loop-proof
decreases-loop-proof l = 256 - length l.proof
