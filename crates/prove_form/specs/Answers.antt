-- What is told of an input of `prove`.
use Rattle.std.specs.Prelude.{◌≡◌, ℕ, List, Option, None, Some, MatchOption, codes}
use Rattle.nal_term.specs.Trees.{FormulaTree, name}
use Rattle.nal_subst.specs.Substitution.{formula_with}
use Rattle.proof_lines.specs.Lines.{LineTree}
use Rattle.proof_text.specs.CanonicalProof.{proof_text}
use Rattle.nal_rules.specs.Faults.{IsFaultless}
use Rattle.chain_prover.specs.Answers.{HasNoChain, IsShortest}
use Rattle.chain_prover.specs.Chains.{IsChainProof}
use Rattle.prove_form.specs.ProveForm.{ProveForm, IsProveForm}

-- a shortest proof of a chain, without fault
pub record IsFound (labels : List FormulaTree) (goal : FormulaTree) (lines : List LineTree) : Type 0 where
  pub chain : IsChainProof labels goal lines
  pub shortest : IsShortest labels goal lines
  pub faultless : (k : ℕ) → IsFaultless lines goal k

-- what is found for the goal, with the subject's name in place of `?subject`; or there is no chain
pub record IsAnswered (form : ProveForm) (found : Option (List LineTree)) : Type 0 where
  pub goal : FormulaTree
  pub formed : formula_with (codes "subject") (name form.givens.subject) form.goal ≡ Some goal
  pub found_is : MatchOption found (HasNoChain form.givens.labels goal) (IsFound form.givens.labels goal)

-- the text has the form of an input, and this is the answer to what it holds
abbrev pub IsTold : List ℕ → Option (List LineTree) → Type 0
IsTold text found = (form : ProveForm) × IsProveForm text form × IsAnswered form found

-- the words of what was found
abbrev pub found_text : Option (List LineTree) → List ℕ
found_text None = codes "no chain"
found_text (Some lines) = proof_text lines
