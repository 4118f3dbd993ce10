-- What untrusted principals can reach by a proof, and what is told of it.
use Rattle.std.specs.Prelude.{◌≡◌, ◌+◌, ◌++◌, ℕ, List, All, Some, map, slice_get}
use Rattle.nal_term.specs.declared.terms.Term.{Term}
use Rattle.nal_term.specs.declared.formulas.Formula.{Formula}
use Rattle.nal_term.specs.Trees.{TermTree, FormulaTree, says, term_trees, formula_tree}
use Rattle.nal_rules.specs.Verdicts.{IsLowest}
use Rattle.trust_check.specs.declared.answers.Trust.{Trust}
use Rattle.trust_check.specs.declared.answers.Trust.TheVariants.{Safe, Label, Goal}
use Rattle.trust_check.specs.Unquantified.{DerivesUnquantified}
use Rattle.trust_check.specs.Valuation.{Assumptions, Holds, IsUntrusted}

-- the assumptions of these principals, predicates and atoms
abbrev pub assumptions_of : List Term → List (List ℕ) → List Formula → Assumptions
assumptions_of untrusted loose facts = record { untrusted = term_trees untrusted; loose = loose; facts = map formula_tree facts }

-- the formula is what an untrusted principal says
abbrev pub IsSaidByUntrusted : Assumptions → FormulaTree → Type 0
IsSaidByUntrusted a f = (p : TermTree) × (s : FormulaTree) × (f ≡ says p s) × IsUntrusted a p

-- Whatever untrusted principals say, and whatever of it authorities affirm: the goal does not follow without rules of
-- quantifiers from the labels and from what these say.
abbrev pub IsOutOfReach : Assumptions → List FormulaTree → FormulaTree → Type 0
IsOutOfReach a labels goal = (said : List FormulaTree) → All (IsSaidByUntrusted a) said → ¬ DerivesUnquantified (labels ++ said) said goal

-- label k, counted from 1, is false
abbrev pub IsFalseLabel : Assumptions → List FormulaTree → ℕ → Type 0
IsFalseLabel a labels k = (j : ℕ) × (f : FormulaTree) × (k ≡ j + 1) × (slice_get labels j ≡ Some f) × ¬ Holds a f

-- what is told of labels and a goal: the first label that is false, else that the goal is true, else that all is safe
abbrev pub IsAnswer : Assumptions → List FormulaTree → FormulaTree → Trust → Type 0
IsAnswer a labels goal (Label k) = IsLowest (IsFalseLabel a labels) k
IsAnswer a labels goal Goal = All (Holds a) labels × Holds a goal
IsAnswer a labels goal Safe = All (Holds a) labels × ¬ Holds a goal
