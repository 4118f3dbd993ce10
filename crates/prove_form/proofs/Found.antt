-- What is told of a search.
use Rattle.std.proofs.Common.{◌≡◌, ℕ, List, Option, None, Some, refl, option_map}
use Rattle.std.specs.Option.{IfSome, MatchOption}
use Rattle.nal_term.specs.Trees.{FormulaTree}
use Rattle.proof_lines.specs.declared.lines.Line.{Line}
use Rattle.proof_lines.specs.Lines.{line_trees}
use Rattle.nal_rules.specs.Faults.{IsFaultless}
use Rattle.chain_prover.specs.Answers.{HasNoChain, IsShortest}
use Rattle.chain_prover.specs.Chains.{IsChainProof}
use Rattle.prove_form.specs.Answers.{IsFound}

pub told : (labels : List FormulaTree) (goal : FormulaTree) (found : Option (List Line)) → (found ≡ None → HasNoChain labels goal) → IfSome found (λ p. IsChainProof labels goal (line_trees p))
    → IfSome found (λ p. IsShortest labels goal (line_trees p)) → IfSome found (λ p. (k : ℕ) → IsFaultless (line_trees p) goal k)
    → MatchOption (option_map line_trees found) (HasNoChain labels goal) (IsFound labels goal)
told labels goal None none chain shortest faultless = none refl
told labels goal (Some p) none chain shortest faultless = record { chain = chain; shortest = shortest; faultless = faultless }
