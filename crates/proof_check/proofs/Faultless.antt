-- The law told of faults alone: a line to which no fault applies is as it has to be, and so each line of a
-- proof without faults is derived from the label lines, the ask lines and the hypotheses on which it rests.
use Rattle.std.proofs.Common.{◌≡◌, ◌⊎◌, ℕ, zero, suc, ◌<◌, ◌≤◌, List, [], ◌∷◌, length, take, Option, Some, None, true, false, refl, subst, inl, inr, ⊎_elim, arith}
use Rattle.std.specs.List.{Contains, All, filter, list_all}
use Rattle.std.proofs.Math.Decide.{ℕ_discrete}
use mathlib.Core.List.{List-discrete}
use Rattle.std.proofs.lemmas.Bool.{cases_lt, cases_eq, cases_Bool}
use Rattle.std.proofs.lemmas.List.Elements.{All-nil, All-cons}
use Rattle.nal_term.specs.declared.formulas.Compare.{Compare}
use Rattle.nal_term.specs.declared.formulas.Compare.TheVariants.{Equal, Less, AtMost}
use Rattle.nal_term.specs.Trees.{TermTree, number, name, text, variable, subprincipal, FormulaTree, verum, falsum, atom, test, and, or, implies, forall, exists, says, speaks_for, speaks_for_on}
use Rattle.nal_term.specs.Free.{is_free_in, IsClosed}
use Rattle.proof_lines.specs.declared.rules.Rule.{Rule}
use Rattle.proof_lines.specs.declared.rules.Rule.TheVariants.{Label, Ask, Hyp, TrueI, AndI, AndL, AndR, OrL, OrR, OrE, ImpI, ImpE, FalseE, ForallI, ForallE, ExistsI, ExistsE, EqRefl, EqSym, EqTrans, Arith, LtTrans, SaysI, Deduce, SaysJoin, SfRefl, SfTrans, SfSub, SfE, SfOnE, SfWeak, Handoff, HandoffOn}
use Rattle.proof_lines.specs.Lines.{LineTree}
use Rattle.nal_rules.specs.Derivation.{Derivation, Derives, ComparisonHolds}
use Rattle.nal_rules.specs.Scope.{IsNameOf, IsInScope}
use Rattle.nal_rules.specs.declared.verdicts.Fault.{Fault}
use Rattle.nal_rules.specs.declared.verdicts.Fault.TheVariants.{NoSuchRef, NotHyp, WrongShape, Capture, NotFresh, OutOfScope, NotTrue, TooManyAsks, NotAsk, NotClosed, StillOpen, NotGoal}
use Rattle.nal_rules.specs.Faults.{line_at, formula_at, formulas_at, RestsOn, hypotheses_of, HasForm, IsHyp, IsFaultless, IsOutOfScope, IsTrueComparison, IsSays, Applies, formulas_where, is_label, is_ask}
use Rattle.nal_rules.proofs.ForCallers.{same_formula}
use Rattle.proof_check.specs.Inner.Premises.{HasFormAt}
use Rattle.proof_check.specs.Inner.Rests.{is_hyp_at}
use Rattle.proof_check.specs.Inner.Sound.{AreEarlier, IsWithinScope, IsMet, IsSoundAt}
use Rattle.proof_check.proofs.Decided.{Decided, decided_as, decided_both, either_decided, as_test, as_says, form_decided}
use Rattle.proof_check.proofs.Reached.{hyps_told, hyps_missing}
use Rattle.proof_check.proofs.Rested.{AreRested}
use Rattle.proof_check.proofs.Steps.{IsSupported}
use Rattle.proof_check.proofs.Law.{lines_supported, goal_derived}

form_from : (lines : List LineTree) (l : LineTree) → (os : Option (List FormulaTree)) → formulas_at lines l.refs ≡ os → (((premises : List FormulaTree) → formulas_at lines l.refs ≡ Some premises → HasForm l.rule premises l.term l.formula → ⊥) → ⊥) → HasFormAt lines l
form_from lines l None e n = absurd (n (λ premises d h. absurd (cc (e, d))))
form_from lines l (Some premises) e n =
    ⊎_elim (λ (h : HasForm l.rule premises l.term l.formula). (premises, e, h)) (λ (no : HasForm l.rule premises l.term l.formula → ⊥). absurd (n (λ ps d h. let s : ps ≡ premises = cc (e, d) in
    no (subst (λ fs. HasForm l.rule fs l.term l.formula) s h)))) (form_decided premises l.term l.formula l.rule)

-- where no reference is to a line that is not earlier, each is to one that is
earlier_from : (k : ℕ) (refs : List ℕ) → ((i : ℕ) × Contains refs i × ((i ≡ 0) ⊎ (k ≤ i)) → ⊥) → AreEarlier k refs
earlier_from k [] n = All-nil (λ i. (0 < i) × (i < k))
earlier_from k (x ∷ refs) n =
    All-cons (λ i. (0 < i) × (i < k)) x refs (⊎_elim (λ (low : 0 < x). low) (λ (e : x ≤ 0). absurd (n (x, (0, omega arith, refl), inl (omega arith)))) (cases_lt 0 x), ⊎_elim (λ (high : x < k). high) (λ (e : k ≤ x). absurd (n (x, (0, omega arith, refl), inr e))) (cases_lt x k)) (earlier_from k refs (λ (i, (place, within, read), bad). n (i, (suc place, omega arith, read), bad)))

hyps_from : (lines : List LineTree) (hs : List ℕ) → ((h : ℕ) × Contains hs h × (IsHyp lines h → ⊥) → ⊥) → All (λ h. IsHyp lines h) hs
hyps_from lines hs n =
    ⊎_elim (λ (e : list_all (is_hyp_at lines) hs ≡ true). hyps_told lines hs e) (λ (e : list_all (is_hyp_at lines) hs ≡ false). absurd (n (hyps_missing lines hs e))) (cases_Bool (list_all (is_hyp_at lines) hs))

closed_from : (f : FormulaTree) → ((IsClosed f → ⊥) → ⊥) → IsClosed f
closed_from f n =
    λ x. ⊎_elim (λ (e : is_free_in x f ≡ true). absurd (n (λ h. let d = h x in absurd (cc (e, d))))) (λ (e : is_free_in x f ≡ false). e) (cases_Bool (is_free_in x f))

same_name : (x y : List ℕ) → Decided (x ≡ y)
same_name x y = elim (List-discrete ℕ_discrete x y) [ yes e ↦ inl e | no n ↦ inr n ]

not_at_all : (x y : List ℕ) (s : List (List ℕ)) → (y ≡ x → ⊥) → (Contains s x → ⊥) → Contains (y ∷ s) x → ⊥
not_at_all x y s n m (zero, within, read) = n read
not_at_all x y s n m (suc k, within, read) = m (k, omega (arith, within), read)

held_decided : (s : List (List ℕ)) (x : List ℕ) → Decided (Contains s x)
held_decided [] x = inr (λ (k, within, read). absurd (omega (arith, within)))
held_decided (y ∷ s) x =
    ⊎_elim (λ (e : y ≡ x). inl (0, omega arith, e)) (λ (n : y ≡ x → ⊥). ⊎_elim (λ (w : Contains s x). inl (suc w.0, (let b = w.1 in omega (arith, b)), w.2)) (λ (m : Contains s x → ⊥). inr (not_at_all x y s n m)) (held_decided s x)) (same_name y x)

name_decided : (s : List (List ℕ)) (t : TermTree) → Decided (IsNameOf s t)
name_decided s (number n) = inr (λ h. h)
name_decided s (name x) = held_decided s x
name_decided s (text x) = inr (λ h. h)
name_decided s (variable x) = inr (λ h. h)
name_decided s (subprincipal t x) = inr (λ h. h)

-- a formula is in the scope, or is not
pub scope_decided : (s : List (List ℕ)) (f : FormulaTree) → Decided (IsInScope s f)
scope_decided s verum = inr (λ h. h)
scope_decided s falsum = inr (λ h. h)
scope_decided s (atom p ts) = held_decided s p
scope_decided s (test c t u) =
    either_decided (IsNameOf s t) (IsNameOf s u) (name_decided s t) (name_decided s u)
scope_decided s (and a b) =
    decided_both (IsInScope s a) (IsInScope s b) (scope_decided s a) (scope_decided s b)
scope_decided s (or a b) =
    decided_both (IsInScope s a) (IsInScope s b) (scope_decided s a) (scope_decided s b)
scope_decided s (implies a b) =
    decided_both (IsInScope s a) (IsInScope s b) (scope_decided s a) (scope_decided s b)
scope_decided s (forall x a) = inr (λ h. h)
scope_decided s (exists x a) = inr (λ h. h)
scope_decided s (says t a) = inr (λ h. h)
scope_decided s (speaks_for t u) = inr (λ h. h)
scope_decided s (speaks_for_on t u o) = inr (λ h. h)

scope_from : (r : Rule) (premises : List FormulaTree) → (IsOutOfScope r premises → ⊥) → IsWithinScope r premises
scope_from SfOnE [] n = tt
scope_from SfOnE (f ∷ []) n = tt
scope_from SfOnE (f ∷ g ∷ []) n =
    λ p q s a e d. ⊎_elim (λ (w : IsInScope s a). w) (λ (m : IsInScope s a → ⊥). absurd (n (p, q, s, a, e, d, m))) (scope_decided s a)
scope_from SfOnE (f ∷ g ∷ x ∷ fs) n = tt
scope_from Label premises n = tt
scope_from Ask premises n = tt
scope_from Hyp premises n = tt
scope_from TrueI premises n = tt
scope_from AndI premises n = tt
scope_from AndL premises n = tt
scope_from AndR premises n = tt
scope_from OrL premises n = tt
scope_from OrR premises n = tt
scope_from OrE premises n = tt
scope_from ImpI premises n = tt
scope_from ImpE premises n = tt
scope_from FalseE premises n = tt
scope_from ForallI premises n = tt
scope_from ForallE premises n = tt
scope_from ExistsI premises n = tt
scope_from ExistsE premises n = tt
scope_from EqRefl premises n = tt
scope_from EqSym premises n = tt
scope_from EqTrans premises n = tt
scope_from Arith premises n = tt
scope_from LtTrans premises n = tt
scope_from SaysI premises n = tt
scope_from Deduce premises n = tt
scope_from SaysJoin premises n = tt
scope_from SfRefl premises n = tt
scope_from SfTrans premises n = tt
scope_from SfSub premises n = tt
scope_from SfE premises n = tt
scope_from SfWeak premises n = tt
scope_from Handoff premises n = tt
scope_from HandoffOn premises n = tt

holds_decided : (c : Compare) (m n : ℕ) → Decided (ComparisonHolds c m n)
holds_decided Equal m n = cases_eq m n
holds_decided Less m n = ⊎_elim (λ (h : m < n). inl h) (λ (h : n ≤ m). inr (λ (b : m < n). omega (arith, h, b))) (cases_lt m n)
holds_decided AtMost m n = ⊎_elim (λ (h : n < m). inr (λ (b : m ≤ n). omega (arith, h, b))) (λ (h : m ≤ n). inl h) (cases_lt n m)

as_number : (t : TermTree) → Decided ((n : ℕ) × (t ≡ number n))
as_number (number n) = inl (n, refl)
as_number (name x) = inr (λ w. let e = w.1 in cc e)
as_number (text x) = inr (λ w. let e = w.1 in cc e)
as_number (variable x) = inr (λ w. let e = w.1 in cc e)
as_number (subprincipal t x) = inr (λ w. let e = w.1 in cc e)

numbers_compared : (f : FormulaTree) (c : Compare) (t u : TermTree) → f ≡ test c t u → Decided ((n : ℕ) × (t ≡ number n)) → Decided ((n : ℕ) × (u ≡ number n)) → Decided (IsTrueComparison f)
numbers_compared f c t u e (inl (m, d)) (inl (n, b)) =
    decided_as (ComparisonHolds c m n) (IsTrueComparison f) (holds_decided c m n) (λ w. (c, m, n, (cc (e, d, b)), w)) (λ (k, i, j, s, w). let x : k ≡ c = cc (e, s) in
    let y : i ≡ m = cc (e, s, d) in
    let z : j ≡ n = cc (e, s, b) in
    subst (λ v. ComparisonHolds v m n) x (subst (λ v. ComparisonHolds k v n) y (subst (λ v. ComparisonHolds k i v) z w)))
numbers_compared f c t u e (inr n) d = inr (λ (k, i, j, s, w). n (i, cc (e, s)))
numbers_compared f c t u e (inl (m, d)) (inr n) = inr (λ (k, i, j, s, w). n (j, cc (e, s)))

comparison_decided : (f : FormulaTree) → Decided (IsTrueComparison f)
comparison_decided f =
    ⊎_elim (λ (w : (c : Compare) × (t : TermTree) × (u : TermTree) × (f ≡ test c t u)). numbers_compared f w.0 w.1 w.2 w.3 (as_number w.1) (as_number w.2)) (λ (n : (c : Compare) × (t : TermTree) × (u : TermTree) × (f ≡ test c t u) → ⊥). inr (λ (k, i, j, s, w). n (k, number i, number j, s))) (as_test f)

from_decided : (P : Type 0) → Decided P → ((P → ⊥) → ⊥) → P
from_decided P (inl p) n = p
from_decided P (inr m) n = absurd (n m)

few_from : (n : ℕ) → (16 < n → ⊥) → n ≤ 16
few_from n h = ⊎_elim (λ (more : 16 < n). absurd (h more)) (λ (few : n ≤ 16). few) (cases_lt 16 n)

module _ (lines : List LineTree) (goal : FormulaTree) (k : ℕ) (l : LineTree) (none : (fault : Fault) → Applies lines goal k l fault → ⊥) where
  met_from : (fault : Fault) → IsMet lines goal k l fault
  met_from NoSuchRef = earlier_from k l.refs (none NoSuchRef)
  met_from NotHyp = hyps_from lines (hypotheses_of l.rule l.refs) (none NotHyp)
  met_from WrongShape = form_from lines l (formulas_at lines l.refs) refl (none WrongShape)
  met_from Capture = none Capture
  met_from NotFresh = none NotFresh
  met_from OutOfScope = λ premises e. scope_from l.rule premises (λ out. none OutOfScope (premises, e, out))
  met_from NotTrue = λ e. from_decided (IsTrueComparison l.formula) (comparison_decided l.formula) (λ n. none NotTrue (e, n))
  met_from TooManyAsks = λ e. few_from (length (filter is_ask (take k lines))) (λ more. none TooManyAsks (e, more))
  met_from NotAsk = λ e. from_decided (IsSays l.formula) (as_says l.formula) (λ n. none NotAsk (e, n))
  met_from NotClosed = λ due. closed_from l.formula (λ n. none NotClosed (due, n))
  met_from StillOpen = λ e h rests. none StillOpen (e, (h, rests))
  met_from NotGoal = λ e. from_decided (l.formula ≡ goal) (same_formula l.formula goal) (λ n. none NotGoal (e, n))

-- a line to which no fault applies is as it has to be
pub faultless_sound : (lines : List LineTree) (goal : FormulaTree) (k : ℕ) → IsFaultless lines goal k → IsSoundAt lines goal k
faultless_sound lines goal k faultless l stands fault = met_from lines goal k l (faultless l stands) fault

-- each of such formulas is that of a hypothesis on which the line rests
rested_formula : (lines : List LineTree) (k : ℕ) (xs : List FormulaTree) → AreRested lines k None xs → (g : FormulaTree) → Contains xs g → (h : ℕ) × RestsOn lines k h × (formula_at lines h ≡ Some g)
rested_formula lines k [] a g (i, within, read) = absurd (omega (arith, within))
rested_formula lines k (x ∷ xs) a g (zero, within, read) =
    let e = a.0.2 in (a.0.0, a.0.1, cc (e, read))
rested_formula lines k (x ∷ xs) a g (suc i, within, read) =
    rested_formula lines k xs a.1 g (i, omega (arith, within), read)

-- each line of a proof without faults is derived from hypotheses on which it rests
pub faultless_derived : (lines : List LineTree) (goal : FormulaTree) → ((k : ℕ) → IsFaultless lines goal k)
    → (k : ℕ) (l : LineTree) → line_at lines k ≡ Some l
    → (open_list : List FormulaTree) × Derivation (formulas_where is_label lines) (formulas_where is_ask lines) open_list l.formula × ((g : FormulaTree) → Contains open_list g → (h : ℕ) × RestsOn lines k h × (formula_at lines h ≡ Some g))
faultless_derived lines goal faultless k l stands =
    let w : IsSupported lines (formulas_where is_label lines) (formulas_where is_ask lines) k l.formula = lines_supported lines goal (λ j. faultless_sound lines goal j (faultless j)) (suc k) k (omega arith) l stands in
    (w.0, w.1, rested_formula lines k w.0 w.2)

-- and its goal from none, where it has a line
pub faultless_goal : (lines : List LineTree) (goal : FormulaTree) → ((k : ℕ) → IsFaultless lines goal k) → (lines ≡ [] → ⊥) → Derives (formulas_where is_label lines) (formulas_where is_ask lines) goal
faultless_goal lines goal faultless some =
    goal_derived lines goal (λ j. faultless_sound lines goal j (faultless j)) some
