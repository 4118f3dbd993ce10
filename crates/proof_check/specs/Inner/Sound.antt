-- What has to stand of a line for each fault that it is not to have.
use Rattle.std.specs.Prelude.{◌≡◌, ◌<◌, ◌≤◌, ◌⊎◌, ℕ, List, [], ◌∷◌, length, take, filter, Some, All}
use Rattle.nal_term.specs.Trees.{TermTree, FormulaTree, says, speaks_for_on}
use Rattle.nal_term.specs.Free.{IsClosed}
use Rattle.proof_lines.specs.declared.rules.Rule.{Rule}
use Rattle.proof_lines.specs.declared.rules.Rule.TheVariants.{Label, Ask, Arith, SfOnE}
use Rattle.proof_lines.specs.Lines.{LineTree}
use Rattle.nal_rules.specs.Scope.{IsInScope}
use Rattle.nal_rules.specs.declared.verdicts.Fault.{Fault}
use Rattle.nal_rules.specs.declared.verdicts.Fault.TheVariants.{NoSuchRef, NotHyp, WrongShape, Capture, NotFresh, OutOfScope, NotTrue, TooManyAsks, NotAsk, NotClosed, StillOpen, NotGoal}
use Rattle.nal_rules.specs.Faults.{line_at, formulas_at, hypotheses_of, is_ask, IsHyp, IsCaptured, IsNotFresh, IsOutOfScope, IsTrueComparison, IsSays, RestsOn}
use Rattle.proof_check.specs.Inner.Premises.{HasFormAt}

-- each reference is the number of an earlier line
abbrev pub AreEarlier : ℕ → List ℕ → Type 0
AreEarlier k refs = All (λ i. (0 < i) × (i < k)) refs

-- what is handed on is in the scope of the delegation
abbrev pub IsWithinScope : Rule → List FormulaTree → Type 0
IsWithinScope SfOnE (f ∷ g ∷ []) = (p q : TermTree) (s : List (List ℕ)) (a : FormulaTree) → f ≡ speaks_for_on p q s → g ≡ says p a → IsInScope s a
IsWithinScope _ premises = Unit {0}

-- what the line hands on is in the scope of its delegation
abbrev pub IsScopeMet : List LineTree → LineTree → Type 0
IsScopeMet lines l =
    (premises : List FormulaTree) → formulas_at lines l.refs ≡ Some premises → IsWithinScope l.rule premises

-- it is not
abbrev pub IsScopeUnmet : List LineTree → LineTree → Type 0
IsScopeUnmet lines l =
    (premises : List FormulaTree) × (formulas_at lines l.refs ≡ Some premises) × IsOutOfScope l.rule premises

-- the substitution that the line's rule asks for is undefined
abbrev pub IsCapturedAt : List LineTree → LineTree → Type 0
IsCapturedAt lines l =
    (premises : List FormulaTree) × (formulas_at lines l.refs ≡ Some premises) × IsCaptured l.rule premises l.term l.formula

-- what has to be closed in the line is
abbrev pub IsClosedWhereDue : LineTree → Type 0
IsClosedWhereDue l = (l.rule ≡ Label) ⊎ (l.rule ≡ Ask) → IsClosed l.formula

-- `IsMet lines goal k l fault`: line k, which is `l`, is as it has to be for the fault not to apply
abbrev pub IsMet : List LineTree → FormulaTree → ℕ → LineTree → Fault → Type 0
IsMet lines goal k l NoSuchRef = AreEarlier k l.refs
IsMet lines goal k l NotHyp = All (λ h. IsHyp lines h) (hypotheses_of l.rule l.refs)
IsMet lines goal k l WrongShape = HasFormAt lines l
IsMet lines goal k l Capture = ¬ IsCapturedAt lines l
IsMet lines goal k l NotFresh = ¬ IsNotFresh lines l.rule l.refs l.formula
IsMet lines goal k l OutOfScope = IsScopeMet lines l
IsMet lines goal k l NotTrue = l.rule ≡ Arith → IsTrueComparison l.formula
IsMet lines goal k l TooManyAsks = l.rule ≡ Ask → length (filter is_ask (take k lines)) ≤ 16
IsMet lines goal k l NotAsk = l.rule ≡ Ask → IsSays l.formula
IsMet lines goal k l NotClosed = IsClosedWhereDue l
IsMet lines goal k l StillOpen = k ≡ length lines → (h : ℕ) → ¬ RestsOn lines k h
IsMet lines goal k l NotGoal = k ≡ length lines → l.formula ≡ goal

-- line k, where there is one, is as it has to be
abbrev pub IsSoundAt : List LineTree → FormulaTree → ℕ → Type 0
IsSoundAt lines goal k = (l : LineTree) → line_at lines k ≡ Some l → (fault : Fault) → IsMet lines goal k l fault
