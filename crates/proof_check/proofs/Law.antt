-- The law: of a proof of which each line is as it has to be, each line is derived from the label lines, the
-- ask lines and the hypotheses on which it rests.
use Rattle.std.proofs.Common.{◌≡◌, ℕ, zero, suc, ◌<◌, List, [], ◌∷◌, length, map, cond, Option, Some, None, Bool, true, false, refl, ap, ◌∙◌, subst, inl, inr, arith}
use Rattle.std.specs.List.{Contains, slice_get, filter}
use Rattle.std.specs.Option.{option_map, option_and_then}
use Rattle.std.proofs.lemmas.List.Elements.{All-head, All-tail}
use Rattle.nal_term.specs.Trees.{FormulaTree}
use Rattle.proof_lines.specs.declared.rules.Rule.TheVariants.{Label, Ask}
use Rattle.proof_lines.specs.Lines.{LineTree}
use Rattle.nal_rules.specs.Derivation.{Derives}
use Rattle.nal_rules.specs.declared.verdicts.Fault.{Fault}
use Rattle.nal_rules.specs.declared.verdicts.Fault.TheVariants.{NoSuchRef, WrongShape, Capture, NotFresh, OutOfScope, NotTrue, NotAsk, NotClosed, StillOpen, NotGoal}
use Rattle.nal_rules.specs.Faults.{line_at, formula_at, formulas_at, formulas_where, is_label, is_ask, RestsOn, itself}
use Rattle.proof_check.specs.Inner.Sound.{AreEarlier, IsMet, IsSoundAt}
use Rattle.proof_check.proofs.Found.{at_last}
use Rattle.proof_check.proofs.Rested.{rested_through}
use Rattle.proof_check.proofs.Steps.{IsSupported, ArePremises}
use Rattle.proof_check.proofs.Derived.{rule_supported}

held_get : (passes : LineTree → Bool) (ls : List LineTree) (i : ℕ) (l : LineTree) → slice_get ls i ≡ Some l → passes l ≡ true → Contains (formulas_where passes ls) l.formula
held_get passes [] i l e p = absurd (cc e)
held_get passes (x ∷ ls) zero l e p =
    let s : x ≡ l = cc e in
    let q : passes x ≡ true = ap passes s ∙ p in
    rw q (0, omega arith, ap (λ y. y.formula) s)
held_get passes (x ∷ ls) (suc i) l e p =
    let w = held_get passes ls i l e p in
    held_more (passes x) (filter passes ls) w
  where
    held_more : (b : Bool) (xs : List LineTree) → Contains (map (λ y. y.formula) xs) l.formula → Contains (map (λ y. y.formula) (cond b (x ∷ xs) xs)) l.formula
    held_more true xs (k, within, read) = (suc k, omega arith, read)
    held_more false xs w = w

-- the formula of a line that passes is among those of the lines that do
pub held_at : (passes : LineTree → Bool) (ls : List LineTree) (k : ℕ) (l : LineTree) → line_at ls k ≡ Some l → passes l ≡ true → Contains (formulas_where passes ls) l.formula
held_at passes ls zero l e p = absurd (cc e)
held_at passes ls (suc k) l e p = held_get passes ls k l e p

-- where each earlier line is derived, so are the formulas of lines to which earlier references refer
premises_supported : (labels answers : List FormulaTree) (ls : List LineTree) (k : ℕ) → ((j : ℕ) → j < k → (l : LineTree) → line_at ls j ≡ Some l → IsSupported ls labels answers j l.formula)
    → (refs : List ℕ) → AreEarlier k refs → (premises : List FormulaTree) → formulas_at ls refs ≡ Some premises → ArePremises ls labels answers k refs premises
premises_supported labels answers ls k earlier [] a premises e =
    let s : [] ≡ premises = cc e in subst (λ fs. ArePremises ls labels answers k [] fs) s tt
premises_supported labels answers ls k earlier (i ∷ refs) a premises e =
    let bounds : (0 < i) × (i < k) = All-head (λ i. (0 < i) × (i < k)) i refs a in
    split (line_at ls i) refl (formulas_at ls refs) (λ l s. earlier i bounds.1 l s) (λ fs s. premises_supported labels answers ls k earlier refs (All-tail (λ i. (0 < i) × (i < k)) i refs a) fs s) premises e
  where
    split : (o : Option LineTree) → line_at ls i ≡ o → (os : Option (List FormulaTree)) → ((l : LineTree) → o ≡ Some l → IsSupported ls labels answers i l.formula) → ((fs : List FormulaTree) → os ≡ Some fs → ArePremises ls labels answers k refs fs)
        → (premises : List FormulaTree) → option_and_then (λ f. option_map (λ fs. f ∷ fs) os) (option_map (λ l. l.formula) o) ≡ Some premises → ArePremises ls labels answers k (i ∷ refs) premises
    split None read os d ds premises e = absurd (cc e)
    split (Some l) read None d ds premises e = absurd (cc e)
    split (Some l) read (Some fs) d ds premises e =
        let s : l.formula ∷ fs ≡ premises = cc e in
        let bounds : (0 < i) × (i < k) = All-head (λ i. (0 < i) × (i < k)) i refs a in
        let formula : formula_at ls i ≡ Some l.formula = ap (λ x. option_map (λ y. y.formula) x) read in
        subst (λ xs. ArePremises ls labels answers k (i ∷ refs) xs) s ((bounds.1, formula, d l refl), ds fs refl)

label_is : (l : LineTree) → l.rule ≡ Label → is_label l ≡ true
label_is l e = rw e

ask_is : (l : LineTree) → l.rule ≡ Ask → is_ask l ≡ true
ask_is l e = rw e

-- each line below n is derived from hypotheses on which it rests
pub lines_supported : (ls : List LineTree) (goal : FormulaTree) → ((k : ℕ) → IsSoundAt ls goal k)
    → (n k : ℕ) → k < n → (l : LineTree) → line_at ls k ≡ Some l → IsSupported ls (formulas_where is_label ls) (formulas_where is_ask ls) k l.formula
lines_supported ls goal sound zero k h l e = absurd (omega arith)
lines_supported ls goal sound (suc n) k h l e =
    let met : (fault : Fault) → IsMet ls goal k l fault = sound k l e in
    let labels : List FormulaTree = formulas_where is_label ls in
    let answers : List FormulaTree = formulas_where is_ask ls in
    let form = met WrongShape in
    let given : ArePremises ls labels answers k l.refs form.0 = premises_supported labels answers ls k (λ j below x stands. lines_supported ls goal sound n j (omega arith) x stands) l.refs (met NoSuchRef) form.0 form.1 in
    rule_supported ls labels answers k l.rule l.refs form.0 l.term l.formula (λ j discharged named earlier xs a. rested_through ls k l e j discharged named earlier xs a) given form.2 record {
      held = λ r. (held_at is_label ls k l e (label_is l r), met NotClosed (inl r));
      answered = λ r. (held_at is_ask ls k l e (ask_is l r), met NotAsk r, met NotClosed (inr r));
      assumed = λ r. (itself (l, e, r), ap (λ x. option_map (λ y. y.formula) x) e);
      free = λ captured. met Capture (form.0, form.1, captured);
      fresh = met NotFresh;
      scope = met OutOfScope form.0 form.1;
      holds = met NotTrue;
    }

closed_support : (ls : List LineTree) (labels answers : List FormulaTree) (k : ℕ) (f : FormulaTree) → ((h : ℕ) → RestsOn ls k h → ⊥) → IsSupported ls labels answers k f → Derives labels answers f
closed_support ls labels answers k f none ([], d, rested) = d
closed_support ls labels answers k f none (g ∷ gs, d, rested) = absurd (none rested.0.0 rested.0.1)

-- the goal is derived
pub goal_derived : (ls : List LineTree) (goal : FormulaTree) → ((k : ℕ) → IsSoundAt ls goal k) → (ls ≡ [] → ⊥) → Derives (formulas_where is_label ls) (formulas_where is_ask ls) goal
goal_derived ls goal sound some =
    let w = at_last ls some in
    let met : (fault : Fault) → IsMet ls goal (length ls) w.0 fault = sound (length ls) w.0 w.1 in
    let support = lines_supported ls goal sound (suc (length ls)) (length ls) (omega arith) w.0 w.1 in
    let d : Derives (formulas_where is_label ls) (formulas_where is_ask ls) w.0.formula = closed_support ls (formulas_where is_label ls) (formulas_where is_ask ls) (length ls) w.0.formula (met StillOpen refl) support in
    subst (λ f. Derives (formulas_where is_label ls) (formulas_where is_ask ls) f) (met NotGoal refl) d
