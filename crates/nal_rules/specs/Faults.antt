-- The faults of a proof's lines. A line is wrong by what stands in it and in the lines to which it refers;
-- nothing here knows of derivations.
use Rattle.std.specs.Prelude.{◌≡◌, ◌≢◌, ◌≤◌, ◌<◌, ◌+◌, ◌⊎◌, ℕ, zero, suc, List, [], ◌∷◌, map, filter, take, length, Bool, true, false, Option, Some, None, Contains, slice_get, if◌then◌else◌}
use Rattle.std.specs.Option.{option_and_then, option_map}
use Rattle.nal_term.specs.declared.formulas.Compare.{Compare}
use Rattle.nal_term.specs.declared.formulas.Compare.TheVariants.{Equal, Less, AtMost}
use Rattle.nal_term.specs.Trees.{TermTree, number, subprincipal, FormulaTree, verum, falsum, test, and, or, implies, forall, exists, says, speaks_for, speaks_for_on}
use Rattle.nal_term.specs.Free.{is_free_in, IsClosed}
use Rattle.nal_subst.specs.Substitution.{formula_with}
use Rattle.proof_lines.specs.declared.rules.Rule.{Rule}
use Rattle.proof_lines.specs.declared.rules.Rule.TheVariants.{Label, Ask, Hyp, TrueI, AndI, AndL, AndR, OrL, OrR, OrE, ImpI, ImpE, FalseE, ForallI, ForallE, ExistsI, ExistsE, EqRefl, EqSym, EqTrans, Arith, LtTrans, SaysI, Deduce, SaysJoin, SfRefl, SfTrans, SfSub, SfE, SfOnE, SfWeak, Handoff, HandoffOn}
use Rattle.proof_lines.specs.Lines.{LineTree}
use Rattle.nal_rules.specs.Scope.{IsInScope}
use Rattle.nal_rules.specs.Derivation.{ComparisonHolds}
use Rattle.nal_rules.specs.declared.verdicts.Fault.{Fault}
use Rattle.nal_rules.specs.declared.verdicts.Fault.TheVariants.{NoSuchRef, NotHyp, WrongShape, Capture, NotFresh, OutOfScope, NotTrue, TooManyAsks, NotAsk, NotClosed, StillOpen, NotGoal}

-- how many ask lines a proof may have
abbrev pub most_asks : ℕ
most_asks = 16

-- the line with this number, counted from 1
abbrev pub line_at : List LineTree → ℕ → Option LineTree
line_at proof zero = None
line_at proof (suc k) = slice_get proof k

-- the formula of the line with this number
abbrev pub formula_at : List LineTree → ℕ → Option FormulaTree
formula_at proof k = option_map (λ l. l.formula) (line_at proof k)

-- the formulas of the lines with these numbers, where there are such lines
abbrev pub formulas_at : List LineTree → List ℕ → Option (List FormulaTree)
formulas_at proof [] = Some []
formulas_at proof (k ∷ ks) = option_and_then (λ f. option_map (λ fs. f ∷ fs) (formulas_at proof ks)) (formula_at proof k)

-- the line with this number is a hypothesis
abbrev pub IsHyp : List LineTree → ℕ → Type 0
IsHyp proof k = (l : LineTree) × (line_at proof k ≡ Some l) × (l.rule ≡ Hyp)

-- the references that have to be hypotheses, which the line discharges
abbrev pub hypotheses_of : Rule → List ℕ → List ℕ
hypotheses_of OrE (i ∷ h ∷ j ∷ h2 ∷ m ∷ []) = h ∷ h2 ∷ []
hypotheses_of ImpI (h ∷ j ∷ []) = h ∷ []
hypotheses_of ExistsE (i ∷ h ∷ j ∷ []) = h ∷ []
hypotheses_of _ refs = []

-- the references on which the line rests, each with the hypothesis that is discharged on the way
abbrev pub supports_of : Rule → List ℕ → List (ℕ × Option ℕ)
supports_of OrE (i ∷ h ∷ j ∷ h2 ∷ m ∷ []) = (i, None) ∷ (j, Some h) ∷ (m, Some h2) ∷ []
supports_of ImpI (h ∷ j ∷ []) = (j, Some h) ∷ []
supports_of ExistsE (i ∷ h ∷ j ∷ []) = (i, None) ∷ (j, Some h) ∷ []
supports_of _ refs = map (λ i. (i, None)) refs

-- `RestsOn proof k h`: line k rests on the hypothesis in line h. A hypothesis rests on itself; any line
-- rests on what the earlier lines that it refers to rest on, but for what it discharges.
pub data RestsOn (proof : List LineTree) : ℕ → ℕ → Type 0 where
  itself : {k : ℕ} → IsHyp proof k → RestsOn proof k k
  through : {k j h : ℕ} {l : LineTree} {discharged : Option ℕ} → line_at proof k ≡ Some l → Contains (supports_of l.rule l.refs) (j, discharged) → j < k → RestsOn proof j h → discharged ≢ Some h → RestsOn proof k h

-- `HasForm rule premises term c`: `c` has the form that the rule asks for, the formulas of the references
-- being `premises`. What other faults ask is set aside: closedness, freshness, scope, the truth of a
-- comparison, the form of an ask, and a substitution that is undefined.
abbrev pub HasForm : Rule → List FormulaTree → Option TermTree → FormulaTree → Type 0
HasForm Label [] None c = Unit {0}
HasForm Ask [] None c = Unit {0}
HasForm Hyp [] None c = Unit {0}
HasForm TrueI [] None c = c ≡ verum
HasForm AndI (a ∷ b ∷ []) None c = c ≡ and a b
HasForm AndL (p ∷ []) None c = (b : FormulaTree) × (p ≡ and c b)
HasForm AndR (p ∷ []) None c = (a : FormulaTree) × (p ≡ and a c)
HasForm OrL (a ∷ []) None c = (b : FormulaTree) × (c ≡ or a b)
HasForm OrR (b ∷ []) None c = (a : FormulaTree) × (c ≡ or a b)
HasForm OrE (p ∷ a ∷ d ∷ b ∷ e ∷ []) None c = (p ≡ or a b) × (d ≡ c) × (e ≡ c)
HasForm ImpI (a ∷ b ∷ []) None c = c ≡ implies a b
HasForm ImpE (p ∷ a ∷ []) None c = p ≡ implies a c
HasForm FalseE (p ∷ []) None c = p ≡ falsum
HasForm ForallI (a ∷ []) None c = (x : List ℕ) × (c ≡ forall x a)
HasForm ForallE (p ∷ []) (Some t) c = (x : List ℕ) × (a : FormulaTree) × (p ≡ forall x a) × ((b : FormulaTree) → formula_with x t a ≡ Some b → c ≡ b)
HasForm ExistsI (p ∷ []) (Some t) c = (x : List ℕ) × (a : FormulaTree) × (c ≡ exists x a) × ((b : FormulaTree) → formula_with x t a ≡ Some b → p ≡ b)
HasForm ExistsE (p ∷ a ∷ d ∷ []) None c = (x : List ℕ) × (p ≡ exists x a) × (d ≡ c)
HasForm EqRefl [] None c = (t : TermTree) × (c ≡ test Equal t t)
HasForm EqSym (p ∷ []) None c = (t : TermTree) × (u : TermTree) × (p ≡ test Equal t u) × (c ≡ test Equal u t)
HasForm EqTrans (p ∷ q ∷ []) None c = (t : TermTree) × (u : TermTree) × (v : TermTree) × (p ≡ test Equal t u) × (q ≡ test Equal u v) × (c ≡ test Equal t v)
HasForm Arith [] None c = Unit {0}
HasForm LtTrans (p ∷ q ∷ []) None c = (t : TermTree) × (u : TermTree) × (v : TermTree) × (p ≡ test Less t u) × ((q ≡ test Less u v) ⊎ (q ≡ test AtMost u v)) × (c ≡ test Less t v)
HasForm SaysI (f ∷ []) None c = (p : TermTree) × (c ≡ says p f)
HasForm Deduce (f ∷ g ∷ []) None c = (p : TermTree) × (a : FormulaTree) × (b : FormulaTree) × (f ≡ says p (implies a b)) × (g ≡ says p a) × (c ≡ says p b)
HasForm SaysJoin (f ∷ []) None c = (p : TermTree) × (a : FormulaTree) × (f ≡ says p (says p a)) × (c ≡ says p a)
HasForm SfRefl [] None c = (p : TermTree) × (c ≡ speaks_for p p)
HasForm SfTrans (f ∷ g ∷ []) None c = (p : TermTree) × (q : TermTree) × (r : TermTree) × (f ≡ speaks_for p q) × (g ≡ speaks_for q r) × (c ≡ speaks_for p r)
HasForm SfSub [] None c = (p : TermTree) × (n : List ℕ) × (c ≡ speaks_for p (subprincipal p n))
HasForm SfE (f ∷ g ∷ []) None c = (p : TermTree) × (q : TermTree) × (a : FormulaTree) × (f ≡ speaks_for p q) × (g ≡ says p a) × (c ≡ says q a)
HasForm SfOnE (f ∷ g ∷ []) None c = (p : TermTree) × (q : TermTree) × (s : List (List ℕ)) × (a : FormulaTree) × (f ≡ speaks_for_on p q s) × (g ≡ says p a) × (c ≡ says q a)
HasForm SfWeak (f ∷ []) None c = (p : TermTree) × (q : TermTree) × (s : List (List ℕ)) × (f ≡ speaks_for p q) × (c ≡ speaks_for_on p q s)
HasForm Handoff (f ∷ []) None c = (p : TermTree) × (q : TermTree) × (f ≡ says q (speaks_for p q)) × (c ≡ speaks_for p q)
HasForm HandoffOn (f ∷ []) None c = (p : TermTree) × (q : TermTree) × (s : List (List ℕ)) × (f ≡ says q (speaks_for_on p q s)) × (c ≡ speaks_for_on p q s)
HasForm _ premises term c = ⊥

-- the substitution that the rule asks for is undefined
abbrev pub IsCaptured : Rule → List FormulaTree → Option TermTree → FormulaTree → Type 0
IsCaptured ForallE (p ∷ []) (Some t) c = (x : List ℕ) × (a : FormulaTree) × (p ≡ forall x a) × (formula_with x t a ≡ None)
IsCaptured ExistsI (p ∷ []) (Some t) c = (x : List ℕ) × (a : FormulaTree) × (c ≡ exists x a) × (formula_with x t a ≡ None)
IsCaptured _ premises term c = ⊥

-- the variable is free in the formula of a hypothesis on which line k rests, `discharged` set aside
abbrev pub IsFreeBelow : List LineTree → ℕ → Option ℕ → List ℕ → Type 0
IsFreeBelow proof k discharged x = (h : ℕ) × RestsOn proof k h × (discharged ≢ Some h) × ((f : FormulaTree) × (formula_at proof h ≡ Some f) × (is_free_in x f ≡ true))

-- the variable of the quantifier is not fresh where the rule asks for it
abbrev pub IsNotFresh : List LineTree → Rule → List ℕ → FormulaTree → Type 0
IsNotFresh proof ForallI (i ∷ []) c = (x : List ℕ) × (a : FormulaTree) × (c ≡ forall x a) × IsFreeBelow proof i None x
IsNotFresh proof ExistsE (i ∷ h ∷ j ∷ []) c = (x : List ℕ) × (a : FormulaTree) × (formula_at proof i ≡ Some (exists x a)) × ((is_free_in x c ≡ true) ⊎ IsFreeBelow proof j (Some h) x)
IsNotFresh proof _ refs c = ⊥

-- what is handed on is not in the scope of the delegation
abbrev pub IsOutOfScope : Rule → List FormulaTree → Type 0
IsOutOfScope SfOnE (f ∷ g ∷ []) = (p : TermTree) × (q : TermTree) × (s : List (List ℕ)) × (a : FormulaTree) × (f ≡ speaks_for_on p q s) × (g ≡ says p a) × ¬ IsInScope s a
IsOutOfScope _ premises = ⊥

-- a true comparison of two numbers
abbrev pub IsTrueComparison : FormulaTree → Type 0
IsTrueComparison c = (compare : Compare) × (m : ℕ) × (n : ℕ) × (c ≡ test compare (number m) (number n)) × ComparisonHolds compare m n

-- something says something
abbrev pub IsSays : FormulaTree → Type 0
IsSays c = (p : TermTree) × (a : FormulaTree) × (c ≡ says p a)

-- the rule is that of an ask line
abbrev pub is_ask : LineTree → Bool
is_ask l = is_ask_rule l.rule
  where
    is_ask_rule : Rule → Bool
    is_ask_rule Ask = true
    is_ask_rule _ = false

-- the rule is that of a label line
abbrev pub is_label : LineTree → Bool
is_label l = is_label_rule l.rule
  where
    is_label_rule : Rule → Bool
    is_label_rule Label = true
    is_label_rule _ = false

-- the numbers of the lines that pass the test, where the first line of the list has the number k
abbrev pub numbers_from : (LineTree → Bool) → ℕ → List LineTree → List ℕ
numbers_from passes k [] = []
numbers_from passes k (l ∷ ls) = if passes l then k ∷ numbers_from passes (k + 1) ls else numbers_from passes (k + 1) ls

-- the formulas of the lines that pass the test, in their order
abbrev pub formulas_where : (LineTree → Bool) → List LineTree → List FormulaTree
formulas_where passes ls = map (λ l. l.formula) (filter passes ls)

-- `Applies proof goal k l fault`: the fault applies to line k, which is `l`
abbrev pub Applies : List LineTree → FormulaTree → ℕ → LineTree → Fault → Type 0
Applies proof goal k l NoSuchRef = (i : ℕ) × Contains l.refs i × ((i ≡ 0) ⊎ (k ≤ i))
Applies proof goal k l NotHyp = (h : ℕ) × Contains (hypotheses_of l.rule l.refs) h × ¬ IsHyp proof h
Applies proof goal k l WrongShape = (premises : List FormulaTree) → formulas_at proof l.refs ≡ Some premises → ¬ HasForm l.rule premises l.term l.formula
Applies proof goal k l Capture = (premises : List FormulaTree) × (formulas_at proof l.refs ≡ Some premises) × IsCaptured l.rule premises l.term l.formula
Applies proof goal k l NotFresh = IsNotFresh proof l.rule l.refs l.formula
Applies proof goal k l OutOfScope = (premises : List FormulaTree) × (formulas_at proof l.refs ≡ Some premises) × IsOutOfScope l.rule premises
Applies proof goal k l NotTrue = (l.rule ≡ Arith) × ¬ IsTrueComparison l.formula
Applies proof goal k l TooManyAsks = (l.rule ≡ Ask) × (most_asks < length (filter is_ask (take k proof)))
Applies proof goal k l NotAsk = (l.rule ≡ Ask) × ¬ IsSays l.formula
Applies proof goal k l NotClosed = ((l.rule ≡ Label) ⊎ (l.rule ≡ Ask)) × ¬ IsClosed l.formula
Applies proof goal k l StillOpen = (k ≡ length proof) × ((h : ℕ) × RestsOn proof k h)
Applies proof goal k l NotGoal = (k ≡ length proof) × (l.formula ≢ goal)

-- the number of a fault, by which the first is found
abbrev pub fault_number : Fault → ℕ
fault_number NoSuchRef = 1
fault_number NotHyp = 2
fault_number WrongShape = 3
fault_number Capture = 4
fault_number NotFresh = 5
fault_number OutOfScope = 6
fault_number NotTrue = 7
fault_number TooManyAsks = 8
fault_number NotAsk = 9
fault_number NotClosed = 10
fault_number StillOpen = 11
fault_number NotGoal = 12

-- the fault of line k is the first that applies to it
pub record HasFault (proof : List LineTree) (goal : FormulaTree) (k : ℕ) (fault : Fault) : Type 0 where
  pub line : LineTree
  pub stands : line_at proof k ≡ Some line
  pub applies : Applies proof goal k line fault
  pub first : (other : Fault) → fault_number other < fault_number fault → ¬ Applies proof goal k line other

-- no fault applies to line k
abbrev pub IsFaultless : List LineTree → FormulaTree → ℕ → Type 0
IsFaultless proof goal k = (l : LineTree) → line_at proof k ≡ Some l → (fault : Fault) → ¬ Applies proof goal k l fault

-- the fault of a proof is that of its lowest faulty line
pub record HasLowestFault (proof : List LineTree) (goal : FormulaTree) (k : ℕ) (fault : Fault) : Type 0 where
  pub faulty : HasFault proof goal k fault
  pub lowest : (j : ℕ) → j < k → IsFaultless proof goal j
