-- What is told of an input of `trust`.
use Rattle.std.specs.Prelude.{◌≡◌, ◌++◌, ℕ, List, Some, codes}
use Rattle.std.specs.Fmt.{decimal}
use Rattle.nal_term.specs.Trees.{FormulaTree, name}
use Rattle.nal_subst.specs.Substitution.{formula_with}
use Rattle.trust_check.specs.declared.answers.Trust.{Trust}
use Rattle.trust_check.specs.declared.answers.Trust.TheVariants.{Safe, Label, Goal}
use Rattle.trust_check.specs.Reach.{IsAnswer, IsOutOfReach}
use Rattle.trust_check.specs.Valuation.{Assumptions}
use Rattle.trust_form.specs.TrustForm.{Givens, TrustForm, IsTrustForm}

-- the assumptions that are given
abbrev pub assumptions_in : Givens → Assumptions
assumptions_in g = record { untrusted = g.untrusted; loose = g.loose; facts = g.facts }

-- the answer is that of the analysis of the goal, with the subject's name in place of `?subject`; and where all is safe,
-- that goal is out of reach
pub record IsAnswered (form : TrustForm) (answer : Trust) : Type 0 where
  pub goal : FormulaTree
  pub formed : formula_with (codes "subject") (name form.givens.subject) form.goal ≡ Some goal
  pub answered : IsAnswer (assumptions_in form.givens) form.givens.labels goal answer
  pub safe : answer ≡ Safe → IsOutOfReach (assumptions_in form.givens) form.givens.labels goal

-- the text has the form of an input, and this is the answer to what it holds
abbrev pub IsTold : List ℕ → Trust → Type 0
IsTold text answer = (form : TrustForm) × IsTrustForm text form × IsAnswered form answer

-- the words of an answer
abbrev pub trust_text : Trust → List ℕ
trust_text Safe = codes "safe"
trust_text (Label k) = codes "label " ++ decimal k
trust_text Goal = codes "goal"
