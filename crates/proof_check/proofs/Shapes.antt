-- The forms of lines, against the formulas to which a line refers.
use Rattle.std.proofs.Common.{◌≡◌, ◌≢◌, ◌↔◌, ap, sym, ◌⊎◌, inl, inr, ⊎_elim, ℕ, List, [], ◌∷◌, length, Option, Some, None, Bool, false, IsTrue, refl, ◌∙◌, subst, arith}
use Rattle.std.specs.Option.{option_map, option_and_then}
use Rattle.nal_term.specs.declared.formulas.Compare.{Compare}
use Rattle.nal_term.specs.declared.formulas.Compare.TheVariants.{Equal, Less, AtMost}
use Rattle.nal_term.specs.Trees.{TermTree, subprincipal, FormulaTree, test, and, or, implies, forall, exists, says, speaks_for, speaks_for_on}
use Rattle.proof_lines.specs.declared.rules.Rule.TheVariants.{Deduce, AndL, AndR, OrL, OrR, EqRefl, EqSym, EqTrans, LtTrans, SaysI, SfRefl, SfSub, SfTrans, SfE, SfOnE, SfWeak, ForallE, ExistsI}
use Rattle.proof_lines.specs.Lines.{LineTree, HasRuleForm, reference_count}
use Rattle.nal_rules.specs.Faults.{formula_at, formulas_at, HasForm, IsCaptured}
use Rattle.proof_check.specs.Inner.Premises.{premise_at, HasFormAt}
use Rattle.proof_check.specs.Inner.Sound.{IsCapturedAt}
use Rattle.nal_subst.specs.Substitution.{formula_with}
use Rattle.nal_subst.specs.declared.instances.Match.{Match}
use Rattle.nal_subst.specs.declared.instances.Match.TheVariants.{Yes, No, Capture}

-- a deduce line of statements has its form where their parts are the same
pub deduce_form : (p q r : TermTree) (a b f g : FormulaTree) → (((p ≡ q) × (p ≡ r)) × ((a ≡ f) × (b ≡ g))) ↔ HasForm Deduce (says p (implies a b) ∷ says q f ∷ []) None (says r g)
deduce_form p q r a b f g = (
  λ h. let e1 = h.0.0 in
      let e2 = h.0.1 in
      let e3 = h.1.0 in
      let e4 = h.1.1 in
      (p, a, b, refl, (cc (e1, e3)), (cc (e2, e4))),
  λ h. let e1 = h.3 in
      let e2 = h.4 in
      let e3 = h.5 in
      (((cc (e1, e2)), (cc (e1, e3))), ((cc (e1, e2)), (cc (e1, e3)))),
)

pair : (a b : Option FormulaTree) → option_and_then (λ f. option_map (λ fs. f ∷ fs) (option_and_then (λ g. option_map (λ fs. g ∷ fs) (Some [])) b)) a ≡ option_and_then (λ f. option_map (λ g. f ∷ g ∷ []) b) a
pair None b = refl
pair (Some f) None = refl
pair (Some f) (Some g) = refl

-- the premises of a line that has two
pub two_premises : (lines : List LineTree) (refs : List ℕ) → length refs ≡ 2 → formulas_at lines refs ≡ option_and_then (λ f. option_map (λ g. f ∷ g ∷ []) (premise_at lines refs 1)) (premise_at lines refs 0)
two_premises lines [] h = absurd (omega arith)
two_premises lines (i ∷ []) h = absurd (omega arith)
two_premises lines (i ∷ j ∷ []) h = pair (formula_at lines i) (formula_at lines j)
two_premises lines (i ∷ j ∷ k ∷ refs) h = absurd (omega arith)

-- the test of the form, where the premises are known
pub form_at : (lines : List LineTree) (l : LineTree) (premises : List FormulaTree) → formulas_at lines l.refs ≡ Some premises → (P : Type 0) → (P ↔ HasForm l.rule premises l.term l.formula) → P ↔ HasFormAt lines l
form_at lines l premises e b h =
    (λ t. (premises, e, h.0 t), λ w. let s : w.0 ≡ premises = (let d = w.1 in cc (d, e)) in h.1 (subst (λ fs. HasForm l.rule fs l.term l.formula) s w.2))

-- a line whose premises are not known has no form
pub no_form_at : (lines : List LineTree) (l : LineTree) → formulas_at lines l.refs ≡ None → IsTrue false ↔ HasFormAt lines l
no_form_at lines l e = (λ t. absurd (cc t), λ w. let d = w.1 in absurd (cc (d, e)))

-- where a line has two premises, a test of its form is one of its form at these
pub two_form_at : (lines : List LineTree) (l : LineTree) → HasRuleForm l → reference_count l.rule ≡ 2 → (f g : FormulaTree) → Some f ≡ premise_at lines l.refs 0 → Some g ≡ premise_at lines l.refs 1 → (P : Type 0) → (P ↔ HasForm l.rule (f ∷ g ∷ []) l.term l.formula) → P ↔ HasFormAt lines l
two_form_at lines l h n f g e d b t =
    let two : length l.refs ≡ 2 = h.references ∙ n in
    form_at lines l (f ∷ g ∷ []) (two_premises lines l.refs two ∙ rw (← e, ← d)) b t

pub second_missing : (lines : List LineTree) (l : LineTree) → HasRuleForm l → reference_count l.rule ≡ 2 → (f : FormulaTree) → Some f ≡ premise_at lines l.refs 0 → None ≡ premise_at lines l.refs 1 → IsTrue false ↔ HasFormAt lines l
second_missing lines l h n f e d =
    let two : length l.refs ≡ 2 = h.references ∙ n in
    no_form_at lines l (two_premises lines l.refs two ∙ rw (← e, ← d))

pub first_missing : (lines : List LineTree) (l : LineTree) → HasRuleForm l → reference_count l.rule ≡ 2 → None ≡ premise_at lines l.refs 0 → IsTrue false ↔ HasFormAt lines l
first_missing lines l h n e =
    let two : length l.refs ≡ 2 = h.references ∙ n in
    no_form_at lines l (two_premises lines l.refs two ∙ rw (← e))

-- the same for formulas that are known to be such statements
pub deduce_spec : (first second conclusion : FormulaTree) (p q r : TermTree) (a b f g : FormulaTree) → first ≡ says p (implies a b) → second ≡ says q f → conclusion ≡ says r g → (p ≡ q) × (p ≡ r) → (t : Bool) → (IsTrue t ↔ ((a ≡ f) × (b ≡ g))) → IsTrue t ↔ HasForm Deduce (first ∷ second ∷ []) None conclusion
deduce_spec first second conclusion p q r a b f g e0 e1 e2 same t h =
    let form = deduce_form p q r a b f g in
    let there : IsTrue t → HasForm Deduce (says p (implies a b) ∷ says q f ∷ []) None (says r g) = λ x. form.0 (same, h.0 x) in
    let back : HasForm Deduce (says p (implies a b) ∷ says q f ∷ []) None (says r g) → IsTrue t = λ x. h.1 (form.1 x).1 in
    rw (e0, e1, e2) (there, back)

-- a test of the parts of a line's formulas, rule by rule, is one of its form
pub and_l_spec : (first conclusion : FormulaTree) (p q : FormulaTree) → first ≡ and p q → (b : Bool) → (IsTrue b ↔ (p ≡ conclusion)) → IsTrue b ↔ HasForm AndL (first ∷ []) None conclusion
and_l_spec first conclusion p q e0 b h =
    (λ x. let w = h.0 x in (q, cc (e0, w)), λ (z, d). h.1 (cc (e0, d)))

pub and_r_spec : (first conclusion : FormulaTree) (p q : FormulaTree) → first ≡ and p q → (b : Bool) → (IsTrue b ↔ (q ≡ conclusion)) → IsTrue b ↔ HasForm AndR (first ∷ []) None conclusion
and_r_spec first conclusion p q e0 b h =
    (λ x. let w = h.0 x in (p, cc (e0, w)), λ (z, d). h.1 (cc (e0, d)))

pub or_l_spec : (first conclusion : FormulaTree) (p q : FormulaTree) → conclusion ≡ or p q → (b : Bool) → (IsTrue b ↔ (p ≡ first)) → IsTrue b ↔ HasForm OrL (first ∷ []) None conclusion
or_l_spec first conclusion p q e0 b h =
    (λ x. let w = h.0 x in (q, cc (e0, w)), λ (z, d). h.1 (cc (e0, d)))

pub or_r_spec : (first conclusion : FormulaTree) (p q : FormulaTree) → conclusion ≡ or p q → (b : Bool) → (IsTrue b ↔ (q ≡ first)) → IsTrue b ↔ HasForm OrR (first ∷ []) None conclusion
or_r_spec first conclusion p q e0 b h =
    (λ x. let w = h.0 x in (p, cc (e0, w)), λ (z, d). h.1 (cc (e0, d)))

pub eq_refl_spec : (conclusion : FormulaTree) (c : Compare) (t u : TermTree) → conclusion ≡ test c t u → c ≡ Equal → (b : Bool) → (IsTrue b ↔ (t ≡ u)) → IsTrue b ↔ HasForm EqRefl [] None conclusion
eq_refl_spec conclusion c t u e0 e1 b h =
    (λ x. let w = h.0 x in (t, cc (e0, e1, w)), λ (z, d). h.1 (cc (e0, d)))

pub eq_sym_spec : (first conclusion : FormulaTree) (c d : Compare) (t u v y : TermTree) → first ≡ test c t u → conclusion ≡ test d v y → (c ≡ Equal) × (d ≡ Equal) → (b : Bool) → (IsTrue b ↔ ((t ≡ y) × (u ≡ v))) → IsTrue b ↔ HasForm EqSym (first ∷ []) None conclusion
eq_sym_spec first conclusion c d t u v y e0 e1 e2 b h =
    (λ x. let w = h.0 x in let w0 = w.0 in let w1 = w.1 in let d0 = e2.0 in let d1 = e2.1 in (t, u, (cc (e0, d0)), (cc (e1, d1, w0, w1))), λ (z, z2, i, j). h.1 ((cc (e0, e1, i, j)), (cc (e0, e1, i, j))))

pub eq_trans_spec : (first second conclusion : FormulaTree) (c d e : Compare) (t u v y x z : TermTree) → first ≡ test c t u → second ≡ test d v y → conclusion ≡ test e x z → ((c ≡ Equal) × (d ≡ Equal)) × (e ≡ Equal) → (b : Bool) → (IsTrue b ↔ (((u ≡ v) × (t ≡ x)) × (y ≡ z))) → IsTrue b ↔ HasForm EqTrans (first ∷ second ∷ []) None conclusion
eq_trans_spec first second conclusion c d e t u v y x z e0 e1 e2 e3 b h =
    (λ x. let w = h.0 x in let w0 = w.0.0 in let w1 = w.0.1 in let w2 = w.1 in let d0 = e3.0.0 in let d1 = e3.0.1 in let d2 = e3.1 in (t, u, y, (cc (e0, d0)), (cc (e1, d1, w0)), (cc (e2, d2, w1, w2))), λ (z0, z1, z2, i, j, k). h.1 (((cc (e0, e1, i, j)), (cc (e0, e2, i, k))), (cc (e1, e2, j, k))))

pub sf_refl_spec : (conclusion : FormulaTree) (p q : TermTree) → conclusion ≡ speaks_for p q → (b : Bool) → (IsTrue b ↔ (p ≡ q)) → IsTrue b ↔ HasForm SfRefl [] None conclusion
sf_refl_spec conclusion p q e0 b h =
    (λ x. let w = h.0 x in (p, cc (e0, w)), λ (z, d). h.1 (cc (e0, d)))

pub sf_sub_spec : (conclusion : FormulaTree) (p q : TermTree) (n : List ℕ) → conclusion ≡ speaks_for p (subprincipal q n) → (b : Bool) → (IsTrue b ↔ (p ≡ q)) → IsTrue b ↔ HasForm SfSub [] None conclusion
sf_sub_spec conclusion p q n e0 b h =
    (λ x. let w = h.0 x in (p, n, cc (e0, w)), λ (z, z2, d). h.1 (cc (e0, d)))

pub says_i_spec : (first conclusion : FormulaTree) (p : TermTree) (f : FormulaTree) → conclusion ≡ says p f → (b : Bool) → (IsTrue b ↔ (f ≡ first)) → IsTrue b ↔ HasForm SaysI (first ∷ []) None conclusion
says_i_spec first conclusion p f e0 b h =
    (λ x. let w = h.0 x in (p, cc (e0, w)), λ (z, d). h.1 (cc (e0, d)))

pub sf_trans_spec : (first second conclusion : FormulaTree) (t u v y x z : TermTree) → first ≡ speaks_for t u → second ≡ speaks_for v y → conclusion ≡ speaks_for x z → (b : Bool) → (IsTrue b ↔ (((u ≡ v) × (t ≡ x)) × (y ≡ z))) → IsTrue b ↔ HasForm SfTrans (first ∷ second ∷ []) None conclusion
sf_trans_spec first second conclusion t u v y x z e0 e1 e2 b h =
    (λ x. let w = h.0 x in let w0 = w.0.0 in let w1 = w.0.1 in let w2 = w.1 in (t, u, y, e0, (cc (e1, w0)), (cc (e2, w1, w2))), λ (z0, z1, z2, i, j, k). h.1 (((cc (e0, e1, i, j)), (cc (e0, e2, i, k))), (cc (e1, e2, j, k))))

pub sf_e_spec : (first second conclusion : FormulaTree) (p q r s : TermTree) (f g : FormulaTree) → first ≡ speaks_for p q → second ≡ says r f → conclusion ≡ says s g → (b : Bool) → (IsTrue b ↔ (((p ≡ r) × (q ≡ s)) × (f ≡ g))) → IsTrue b ↔ HasForm SfE (first ∷ second ∷ []) None conclusion
sf_e_spec first second conclusion p q r s f g e0 e1 e2 b h =
    (λ x. let w = h.0 x in let w0 = w.0.0 in let w1 = w.0.1 in let w2 = w.1 in (p, q, f, e0, (cc (e1, w0)), (cc (e2, w1, w2))), λ (z0, z1, z2, i, j, k). h.1 (((cc (e0, e1, i, j)), (cc (e0, e2, i, k))), (cc (e1, e2, j, k))))

pub sf_on_e_spec : (first second conclusion : FormulaTree) (p q r s : TermTree) (o : List (List ℕ)) (f g : FormulaTree) → first ≡ speaks_for_on p q o → second ≡ says r f → conclusion ≡ says s g → (b : Bool) → (IsTrue b ↔ (((p ≡ r) × (q ≡ s)) × (f ≡ g))) → IsTrue b ↔ HasForm SfOnE (first ∷ second ∷ []) None conclusion
sf_on_e_spec first second conclusion p q r s o f g e0 e1 e2 b h =
    (λ x. let w = h.0 x in let w0 = w.0.0 in let w1 = w.0.1 in let w2 = w.1 in (p, q, o, f, e0, (cc (e1, w0)), (cc (e2, w1, w2))), λ (z0, z1, z2, z3, i, j, k). h.1 (((cc (e0, e1, i, j)), (cc (e0, e2, i, k))), (cc (e1, e2, j, k))))

pub sf_weak_spec : (first conclusion : FormulaTree) (p q r s : TermTree) (o : List (List ℕ)) → first ≡ speaks_for p q → conclusion ≡ speaks_for_on r s o → (b : Bool) → (IsTrue b ↔ ((p ≡ r) × (q ≡ s))) → IsTrue b ↔ HasForm SfWeak (first ∷ []) None conclusion
sf_weak_spec first conclusion p q r s o e0 e1 b h =
    (λ x. let w = h.0 x in let w0 = w.0 in let w1 = w.1 in (p, q, o, e0, (cc (e1, w0, w1))), λ (z0, z1, z2, i, j). h.1 ((cc (e0, e1, i, j)), (cc (e0, e1, i, j))))

pub lt_trans_spec : (first second conclusion : FormulaTree) (c d e : Compare) (t u v y x z : TermTree) → first ≡ test c t u → second ≡ test d v y → conclusion ≡ test e x z → (c ≡ Less) × ((d ≡ Less) ⊎ (d ≡ AtMost)) × (e ≡ Less) → (b : Bool) → (IsTrue b ↔ (((u ≡ v) × (t ≡ x)) × (y ≡ z))) → IsTrue b ↔ HasForm LtTrans (first ∷ second ∷ []) None conclusion
lt_trans_spec first second conclusion c d e t u v y x z e0 e1 e2 (d0, d1, d2) b h = (
  λ m. let w = h.0 m in
      let w0 = w.0.0 in
      let w1 = w.0.1 in
      let w2 = w.1 in
      (t, u, y, (cc (e0, d0)), ⊎_elim (λ (s : d ≡ Less). inl (cc (e1, s, w0))) (λ (s : d ≡ AtMost). inr (cc (e1, s, w0))) d1, (cc (e2, d2, w1, w2))),
  λ (z0, z1, z2, i, j, k). h.1 (⊎_elim (λ (j : second ≡ test Less z1 z2). (((cc (e0, e1, i, j)), (cc (e0, e2, i, k))), (cc (e1, e2, j, k)))) (λ (j : second ≡ test AtMost z1 z2). (((cc (e0, e1, i, j)), (cc (e0, e2, i, k))), (cc (e1, e2, j, k)))) j),
)

-- where a line has one premise, a test of its form is one of its form at that
one_premise : (lines : List LineTree) (refs : List ℕ) → length refs ≡ 1 → formulas_at lines refs ≡ option_map (λ f. f ∷ []) (premise_at lines refs 0)
one_premise lines [] h = absurd (omega arith)
one_premise lines (i ∷ []) h = single (formula_at lines i)
  where
    single : (a : Option FormulaTree) → option_and_then (λ f. option_map (λ fs. f ∷ fs) (Some [])) a ≡ option_map (λ f. f ∷ []) a
    single None = refl
    single (Some f) = refl
one_premise lines (i ∷ j ∷ refs) h = absurd (omega arith)

pub one_form_at : (lines : List LineTree) (l : LineTree) → HasRuleForm l → reference_count l.rule ≡ 1 → (f : FormulaTree) → Some f ≡ premise_at lines l.refs 0 → (P : Type 0) → (P ↔ HasForm l.rule (f ∷ []) l.term l.formula) → P ↔ HasFormAt lines l
one_form_at lines l h n f e b t =
    let one : length l.refs ≡ 1 = h.references ∙ n in
    form_at lines l (f ∷ []) (one_premise lines l.refs one ∙ rw (← e)) b t

pub one_missing : (lines : List LineTree) (l : LineTree) → HasRuleForm l → reference_count l.rule ≡ 1 → None ≡ premise_at lines l.refs 0 → IsTrue false ↔ HasFormAt lines l
one_missing lines l h n e =
    let one : length l.refs ≡ 1 = h.references ∙ n in
    no_form_at lines l (one_premise lines l.refs one ∙ rw (← e))

-- the premises of a line, as far as they are known
pub two_unknown_first : (lines : List LineTree) (refs : List ℕ) → length refs ≡ 2 → None ≡ premise_at lines refs 0 → formulas_at lines refs ≡ None
two_unknown_first lines [] h d = absurd (omega (arith, h))
two_unknown_first lines (i ∷ []) h d = absurd (omega (arith, h))
two_unknown_first lines (i ∷ j ∷ x ∷ refs) h d = absurd (omega (arith, h))
two_unknown_first lines (i ∷ j ∷ []) h d = rw (← d) refl

pub two_unknown_second : (lines : List LineTree) (refs : List ℕ) → length refs ≡ 2 → (f : FormulaTree) → Some f ≡ premise_at lines refs 0 → None ≡ premise_at lines refs 1 → formulas_at lines refs ≡ None
two_unknown_second lines [] h f e0 d = absurd (omega (arith, h))
two_unknown_second lines (i ∷ []) h f e0 d = absurd (omega (arith, h))
two_unknown_second lines (i ∷ j ∷ x ∷ refs) h f e0 d = absurd (omega (arith, h))
two_unknown_second lines (i ∷ j ∷ []) h f e0 d = rw (← e0, ← d) refl

pub two_known : (lines : List LineTree) (refs : List ℕ) → length refs ≡ 2 → (f g : FormulaTree) → Some f ≡ premise_at lines refs 0 → Some g ≡ premise_at lines refs 1 → formulas_at lines refs ≡ Some (f ∷ g ∷ [])
two_known lines [] h f g e0 e1 = absurd (omega (arith, h))
two_known lines (i ∷ []) h f g e0 e1 = absurd (omega (arith, h))
two_known lines (i ∷ j ∷ x ∷ refs) h f g e0 e1 = absurd (omega (arith, h))
two_known lines (i ∷ j ∷ []) h f g e0 e1 = rw (← e0, ← e1) refl

pub three_unknown_first : (lines : List LineTree) (refs : List ℕ) → length refs ≡ 3 → None ≡ premise_at lines refs 0 → formulas_at lines refs ≡ None
three_unknown_first lines [] h d = absurd (omega (arith, h))
three_unknown_first lines (i ∷ []) h d = absurd (omega (arith, h))
three_unknown_first lines (i ∷ j ∷ []) h d = absurd (omega (arith, h))
three_unknown_first lines (i ∷ j ∷ m ∷ x ∷ refs) h d = absurd (omega (arith, h))
three_unknown_first lines (i ∷ j ∷ m ∷ []) h d = rw (← d) refl

pub three_unknown_second : (lines : List LineTree) (refs : List ℕ) → length refs ≡ 3 → (f : FormulaTree) → Some f ≡ premise_at lines refs 0 → None ≡ premise_at lines refs 1 → formulas_at lines refs ≡ None
three_unknown_second lines [] h f e0 d = absurd (omega (arith, h))
three_unknown_second lines (i ∷ []) h f e0 d = absurd (omega (arith, h))
three_unknown_second lines (i ∷ j ∷ []) h f e0 d = absurd (omega (arith, h))
three_unknown_second lines (i ∷ j ∷ m ∷ x ∷ refs) h f e0 d = absurd (omega (arith, h))
three_unknown_second lines (i ∷ j ∷ m ∷ []) h f e0 d = rw (← e0, ← d) refl

pub three_unknown_third : (lines : List LineTree) (refs : List ℕ) → length refs ≡ 3 → (f g : FormulaTree) → Some f ≡ premise_at lines refs 0 → Some g ≡ premise_at lines refs 1 → None ≡ premise_at lines refs 2 → formulas_at lines refs ≡ None
three_unknown_third lines [] h f g e0 e1 d = absurd (omega (arith, h))
three_unknown_third lines (i ∷ []) h f g e0 e1 d = absurd (omega (arith, h))
three_unknown_third lines (i ∷ j ∷ []) h f g e0 e1 d = absurd (omega (arith, h))
three_unknown_third lines (i ∷ j ∷ m ∷ x ∷ refs) h f g e0 e1 d = absurd (omega (arith, h))
three_unknown_third lines (i ∷ j ∷ m ∷ []) h f g e0 e1 d = rw (← e0, ← e1, ← d) refl

pub three_known : (lines : List LineTree) (refs : List ℕ) → length refs ≡ 3 → (f g p : FormulaTree) → Some f ≡ premise_at lines refs 0 → Some g ≡ premise_at lines refs 1 → Some p ≡ premise_at lines refs 2 → formulas_at lines refs ≡ Some (f ∷ g ∷ p ∷ [])
three_known lines [] h f g p e0 e1 e2 = absurd (omega (arith, h))
three_known lines (i ∷ []) h f g p e0 e1 e2 = absurd (omega (arith, h))
three_known lines (i ∷ j ∷ []) h f g p e0 e1 e2 = absurd (omega (arith, h))
three_known lines (i ∷ j ∷ m ∷ x ∷ refs) h f g p e0 e1 e2 = absurd (omega (arith, h))
three_known lines (i ∷ j ∷ m ∷ []) h f g p e0 e1 e2 = rw (← e0, ← e1, ← e2) refl

pub five_unknown_first : (lines : List LineTree) (refs : List ℕ) → length refs ≡ 5 → None ≡ premise_at lines refs 0 → formulas_at lines refs ≡ None
five_unknown_first lines [] h d = absurd (omega (arith, h))
five_unknown_first lines (i ∷ []) h d = absurd (omega (arith, h))
five_unknown_first lines (i ∷ j ∷ []) h d = absurd (omega (arith, h))
five_unknown_first lines (i ∷ j ∷ m ∷ []) h d = absurd (omega (arith, h))
five_unknown_first lines (i ∷ j ∷ m ∷ n ∷ []) h d = absurd (omega (arith, h))
five_unknown_first lines (i ∷ j ∷ m ∷ n ∷ o ∷ x ∷ refs) h d = absurd (omega (arith, h))
five_unknown_first lines (i ∷ j ∷ m ∷ n ∷ o ∷ []) h d = rw (← d) refl

pub five_unknown_second : (lines : List LineTree) (refs : List ℕ) → length refs ≡ 5 → (f : FormulaTree) → Some f ≡ premise_at lines refs 0 → None ≡ premise_at lines refs 1 → formulas_at lines refs ≡ None
five_unknown_second lines [] h f e0 d = absurd (omega (arith, h))
five_unknown_second lines (i ∷ []) h f e0 d = absurd (omega (arith, h))
five_unknown_second lines (i ∷ j ∷ []) h f e0 d = absurd (omega (arith, h))
five_unknown_second lines (i ∷ j ∷ m ∷ []) h f e0 d = absurd (omega (arith, h))
five_unknown_second lines (i ∷ j ∷ m ∷ n ∷ []) h f e0 d = absurd (omega (arith, h))
five_unknown_second lines (i ∷ j ∷ m ∷ n ∷ o ∷ x ∷ refs) h f e0 d = absurd (omega (arith, h))
five_unknown_second lines (i ∷ j ∷ m ∷ n ∷ o ∷ []) h f e0 d = rw (← e0, ← d) refl

pub five_unknown_third : (lines : List LineTree) (refs : List ℕ) → length refs ≡ 5 → (f g : FormulaTree) → Some f ≡ premise_at lines refs 0 → Some g ≡ premise_at lines refs 1 → None ≡ premise_at lines refs 2 → formulas_at lines refs ≡ None
five_unknown_third lines [] h f g e0 e1 d = absurd (omega (arith, h))
five_unknown_third lines (i ∷ []) h f g e0 e1 d = absurd (omega (arith, h))
five_unknown_third lines (i ∷ j ∷ []) h f g e0 e1 d = absurd (omega (arith, h))
five_unknown_third lines (i ∷ j ∷ m ∷ []) h f g e0 e1 d = absurd (omega (arith, h))
five_unknown_third lines (i ∷ j ∷ m ∷ n ∷ []) h f g e0 e1 d = absurd (omega (arith, h))
five_unknown_third lines (i ∷ j ∷ m ∷ n ∷ o ∷ x ∷ refs) h f g e0 e1 d = absurd (omega (arith, h))
five_unknown_third lines (i ∷ j ∷ m ∷ n ∷ o ∷ []) h f g e0 e1 d = rw (← e0, ← e1, ← d) refl

pub five_unknown_fourth : (lines : List LineTree) (refs : List ℕ) → length refs ≡ 5 → (f g p : FormulaTree) → Some f ≡ premise_at lines refs 0 → Some g ≡ premise_at lines refs 1 → Some p ≡ premise_at lines refs 2 → None ≡ premise_at lines refs 3 → formulas_at lines refs ≡ None
five_unknown_fourth lines [] h f g p e0 e1 e2 d = absurd (omega (arith, h))
five_unknown_fourth lines (i ∷ []) h f g p e0 e1 e2 d = absurd (omega (arith, h))
five_unknown_fourth lines (i ∷ j ∷ []) h f g p e0 e1 e2 d = absurd (omega (arith, h))
five_unknown_fourth lines (i ∷ j ∷ m ∷ []) h f g p e0 e1 e2 d = absurd (omega (arith, h))
five_unknown_fourth lines (i ∷ j ∷ m ∷ n ∷ []) h f g p e0 e1 e2 d = absurd (omega (arith, h))
five_unknown_fourth lines (i ∷ j ∷ m ∷ n ∷ o ∷ x ∷ refs) h f g p e0 e1 e2 d = absurd (omega (arith, h))
five_unknown_fourth lines (i ∷ j ∷ m ∷ n ∷ o ∷ []) h f g p e0 e1 e2 d = rw (← e0, ← e1, ← e2, ← d) refl

pub five_unknown_fifth : (lines : List LineTree) (refs : List ℕ) → length refs ≡ 5 → (f g p q : FormulaTree) → Some f ≡ premise_at lines refs 0 → Some g ≡ premise_at lines refs 1 → Some p ≡ premise_at lines refs 2 → Some q ≡ premise_at lines refs 3 → None ≡ premise_at lines refs 4 → formulas_at lines refs ≡ None
five_unknown_fifth lines [] h f g p q e0 e1 e2 e3 d = absurd (omega (arith, h))
five_unknown_fifth lines (i ∷ []) h f g p q e0 e1 e2 e3 d = absurd (omega (arith, h))
five_unknown_fifth lines (i ∷ j ∷ []) h f g p q e0 e1 e2 e3 d = absurd (omega (arith, h))
five_unknown_fifth lines (i ∷ j ∷ m ∷ []) h f g p q e0 e1 e2 e3 d = absurd (omega (arith, h))
five_unknown_fifth lines (i ∷ j ∷ m ∷ n ∷ []) h f g p q e0 e1 e2 e3 d = absurd (omega (arith, h))
five_unknown_fifth lines (i ∷ j ∷ m ∷ n ∷ o ∷ x ∷ refs) h f g p q e0 e1 e2 e3 d = absurd (omega (arith, h))
five_unknown_fifth lines (i ∷ j ∷ m ∷ n ∷ o ∷ []) h f g p q e0 e1 e2 e3 d = rw (← e0, ← e1, ← e2, ← e3, ← d) refl

pub five_known : (lines : List LineTree) (refs : List ℕ) → length refs ≡ 5 → (f g p q r : FormulaTree) → Some f ≡ premise_at lines refs 0 → Some g ≡ premise_at lines refs 1 → Some p ≡ premise_at lines refs 2 → Some q ≡ premise_at lines refs 3 → Some r ≡ premise_at lines refs 4 → formulas_at lines refs ≡ Some (f ∷ g ∷ p ∷ q ∷ r ∷ [])
five_known lines [] h f g p q r e0 e1 e2 e3 e4 = absurd (omega (arith, h))
five_known lines (i ∷ []) h f g p q r e0 e1 e2 e3 e4 = absurd (omega (arith, h))
five_known lines (i ∷ j ∷ []) h f g p q r e0 e1 e2 e3 e4 = absurd (omega (arith, h))
five_known lines (i ∷ j ∷ m ∷ []) h f g p q r e0 e1 e2 e3 e4 = absurd (omega (arith, h))
five_known lines (i ∷ j ∷ m ∷ n ∷ []) h f g p q r e0 e1 e2 e3 e4 = absurd (omega (arith, h))
five_known lines (i ∷ j ∷ m ∷ n ∷ o ∷ x ∷ refs) h f g p q r e0 e1 e2 e3 e4 = absurd (omega (arith, h))
five_known lines (i ∷ j ∷ m ∷ n ∷ o ∷ []) h f g p q r e0 e1 e2 e3 e4 = rw (← e0, ← e1, ← e2, ← e3, ← e4) refl

same_with : (x y : List ℕ) (t : TermTree) (a b : FormulaTree) (o : Option FormulaTree) → x ≡ y → a ≡ b → formula_with x t a ≡ o → formula_with y t b ≡ o
same_with x y t a b o e d w =
    subst (λ z. formula_with z t b ≡ o) e (subst (λ z. formula_with x t z ≡ o) d w)

pub forall_e_spec : (first conclusion : FormulaTree) (t : TermTree) (x : List ℕ) (a : FormulaTree) → first ≡ forall x a → (P : Type 0) → (P ↔ ((y : FormulaTree) → formula_with x t a ≡ Some y → conclusion ≡ y)) → P ↔ HasForm ForallE (first ∷ []) (Some t) conclusion
forall_e_spec first conclusion t x a e b h =
    (λ m. (x, a, e, h.0 m), λ (z, f, d, s). h.1 (λ y w. s y (same_with x z t a f (Some y) (cc (e, d)) (cc (e, d)) w)))

pub exists_i_spec : (first conclusion : FormulaTree) (t : TermTree) (x : List ℕ) (a : FormulaTree) → conclusion ≡ exists x a → (P : Type 0) → (P ↔ ((y : FormulaTree) → formula_with x t a ≡ Some y → first ≡ y)) → P ↔ HasForm ExistsI (first ∷ []) (Some t) conclusion
exists_i_spec first conclusion t x a e b h =
    (λ m. (x, a, e, h.0 m), λ (z, f, d, s). h.1 (λ y w. s y (same_with x z t a f (Some y) (cc (e, d)) (cc (e, d)) w)))

-- what an answer of a substitution says of a formula that may be its instance
pub made_where_defined : (m : Match) (o : Option FormulaTree) (g : FormulaTree) → ((m ≡ Capture) ↔ (o ≡ None)) → ((m ≡ Yes) ↔ (o ≡ Some g)) → (m ≢ No) ↔ ((b : FormulaTree) → o ≡ Some b → g ≡ b)
made_where_defined Capture o g c y =
    let e : o ≡ None = c.0 refl in
    (λ n b d. absurd (cc (e, d)), λ made n. absurd (cc n))
made_where_defined Yes o g c y =
    let e : o ≡ Some g = y.0 refl in
    (λ n b d. cc (e, d), λ made n. absurd (cc n))
made_where_defined No None g c y = (λ n. absurd (n refl), λ made n. let d : No ≡ Capture = c.1 refl in absurd (cc d))
made_where_defined No (Some f) g c y =
    (λ n. absurd (n refl), λ made n. let d : No ≡ Yes = y.1 (ap (λ x. Some x) (sym (made f refl))) in absurd (cc d))

-- the test of an undefined substitution, where the premises are known
pub captured_at : (lines : List LineTree) (l : LineTree) → HasRuleForm l → reference_count l.rule ≡ 1 → (f : FormulaTree) → Some f ≡ premise_at lines l.refs 0 → (P : Type 0) → (P ↔ IsCaptured l.rule (f ∷ []) l.term l.formula) → P ↔ IsCapturedAt lines l
captured_at lines l form n f e b h =
    let one : length l.refs ≡ 1 = form.references ∙ n in
    let found : formulas_at lines l.refs ≡ Some (f ∷ []) = one_premise lines l.refs one ∙ rw (← e) in (
      λ t. (f ∷ [], found, h.0 t),
      λ w. let d = w.1 in
          let s : w.0 ≡ f ∷ [] = cc (d, found) in
          h.1 (subst (λ fs. IsCaptured l.rule fs l.term l.formula) s w.2),
    )

-- a line whose reference is not known has no form, and no substitution is asked for
pub no_form_without : (lines : List LineTree) (l : LineTree) → HasRuleForm l → reference_count l.rule ≡ 1 → None ≡ premise_at lines l.refs 0 → HasFormAt lines l → ⊥
no_form_without lines l form n e w =
    let one : length l.refs ≡ 1 = form.references ∙ n in
    let none : formulas_at lines l.refs ≡ None = one_premise lines l.refs one ∙ rw (← e) in
    let d = w.1 in
    absurd (cc (d, none))

pub not_captured_without : (lines : List LineTree) (l : LineTree) → HasRuleForm l → reference_count l.rule ≡ 1 → None ≡ premise_at lines l.refs 0 → IsCapturedAt lines l → ⊥
not_captured_without lines l form n e w =
    let one : length l.refs ≡ 1 = form.references ∙ n in
    let none : formulas_at lines l.refs ≡ None = one_premise lines l.refs one ∙ rw (← e) in
    let d = w.1 in
    absurd (cc (d, none))
