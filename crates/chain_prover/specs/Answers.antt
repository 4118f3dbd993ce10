-- What is answered about labels and a goal.
use Rattle.std.specs.Prelude.{◌≤◌, List, length}
use Rattle.nal_term.specs.Trees.{FormulaTree}
use Rattle.proof_lines.specs.Lines.{LineTree}
use Rattle.chain_prover.specs.Chains.{IsChainProof}

-- no proof of a chain has fewer lines
abbrev pub IsShortest : List FormulaTree → FormulaTree → List LineTree → Type 0
IsShortest labels goal lines = (other : List LineTree) → IsChainProof labels goal other → length lines ≤ length other

-- there is no chain
abbrev pub HasNoChain : List FormulaTree → FormulaTree → Type 0
HasNoChain labels goal = (lines : List LineTree) → ¬ IsChainProof labels goal lines
