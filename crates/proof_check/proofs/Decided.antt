-- Whether a line has the form of its rule is decided.
use Rattle.std.proofs.Common.{◌≡◌, ◌⊎◌, ℕ, List, [], ◌∷◌, Option, Some, None, refl, subst, inl, inr, ⊎_elim}
use Rattle.nal_term.specs.declared.formulas.Compare.{Compare}
use Rattle.nal_term.specs.declared.formulas.Compare.TheVariants.{Equal, Less, AtMost}
use Rattle.nal_term.specs.Trees.{TermTree, number, name, text, variable, subprincipal, FormulaTree, verum, falsum, atom, test, and, or, implies, forall, exists, says, speaks_for, speaks_for_on}
use Rattle.nal_subst.specs.Substitution.{formula_with}
use Rattle.proof_lines.specs.declared.rules.Rule.{Rule}
use Rattle.proof_lines.specs.declared.rules.Rule.TheVariants.{Label, Ask, Hyp, TrueI, AndI, AndL, AndR, OrL, OrR, OrE, ImpI, ImpE, FalseE, ForallI, ForallE, ExistsI, ExistsE, EqRefl, EqSym, EqTrans, Arith, LtTrans, SaysI, Deduce, SaysJoin, SfRefl, SfTrans, SfSub, SfE, SfOnE, SfWeak, Handoff, HandoffOn}
use Rattle.nal_rules.specs.Faults.{HasForm}
use Rattle.nal_rules.proofs.ForCallers.{same_formula, same_term}

abbrev pub Decided : Type 0 → Type 0
Decided P = P ⊎ (P → ⊥)

-- what is so exactly where something that is decided is so is decided
pub decided_as : (P Q : Type 0) → Decided P → (P → Q) → (Q → P) → Decided Q
decided_as P Q (inl p) there back = inl (there p)
decided_as P Q (inr n) there back = inr (λ q. n (back q))

pub decided_both : (P Q : Type 0) → Decided P → Decided Q → Decided (P × Q)
decided_both P Q (inl p) (inl q) = inl (p, q)
decided_both P Q (inl p) (inr n) = inr (λ w. n w.1)
decided_both P Q (inr n) d = inr (λ w. n w.0)

pub same_compare : (c d : Compare) → Decided (c ≡ d)
same_compare Equal Equal = inl refl
same_compare Equal Less = inr (λ e. cc e)
same_compare Equal AtMost = inr (λ e. cc e)
same_compare Less Equal = inr (λ e. cc e)
same_compare Less Less = inl refl
same_compare Less AtMost = inr (λ e. cc e)
same_compare AtMost Equal = inr (λ e. cc e)
same_compare AtMost Less = inr (λ e. cc e)
same_compare AtMost AtMost = inl refl

abbrev IsAndFormula : FormulaTree → Type 0
IsAndFormula f = (a : FormulaTree) × (b : FormulaTree) × (f ≡ and a b)

pub as_and : (f : FormulaTree) → Decided (IsAndFormula f)
as_and verum = inr (λ w. let e = w.2 in cc e)
as_and falsum = inr (λ w. let e = w.2 in cc e)
as_and (atom x ts) = inr (λ w. let e = w.2 in cc e)
as_and (test c t u) = inr (λ w. let e = w.2 in cc e)
as_and (and f g) = inl (f, g, refl)
as_and (or f g) = inr (λ w. let e = w.2 in cc e)
as_and (implies f g) = inr (λ w. let e = w.2 in cc e)
as_and (forall x f) = inr (λ w. let e = w.2 in cc e)
as_and (exists x f) = inr (λ w. let e = w.2 in cc e)
as_and (says t f) = inr (λ w. let e = w.2 in cc e)
as_and (speaks_for t u) = inr (λ w. let e = w.2 in cc e)
as_and (speaks_for_on t u s) = inr (λ w. let e = w.2 in cc e)

abbrev IsOrFormula : FormulaTree → Type 0
IsOrFormula f = (a : FormulaTree) × (b : FormulaTree) × (f ≡ or a b)

pub as_or : (f : FormulaTree) → Decided (IsOrFormula f)
as_or verum = inr (λ w. let e = w.2 in cc e)
as_or falsum = inr (λ w. let e = w.2 in cc e)
as_or (atom x ts) = inr (λ w. let e = w.2 in cc e)
as_or (test c t u) = inr (λ w. let e = w.2 in cc e)
as_or (and f g) = inr (λ w. let e = w.2 in cc e)
as_or (or f g) = inl (f, g, refl)
as_or (implies f g) = inr (λ w. let e = w.2 in cc e)
as_or (forall x f) = inr (λ w. let e = w.2 in cc e)
as_or (exists x f) = inr (λ w. let e = w.2 in cc e)
as_or (says t f) = inr (λ w. let e = w.2 in cc e)
as_or (speaks_for t u) = inr (λ w. let e = w.2 in cc e)
as_or (speaks_for_on t u s) = inr (λ w. let e = w.2 in cc e)

abbrev IsImpliesFormula : FormulaTree → Type 0
IsImpliesFormula f = (a : FormulaTree) × (b : FormulaTree) × (f ≡ implies a b)

pub as_implies : (f : FormulaTree) → Decided (IsImpliesFormula f)
as_implies verum = inr (λ w. let e = w.2 in cc e)
as_implies falsum = inr (λ w. let e = w.2 in cc e)
as_implies (atom x ts) = inr (λ w. let e = w.2 in cc e)
as_implies (test c t u) = inr (λ w. let e = w.2 in cc e)
as_implies (and f g) = inr (λ w. let e = w.2 in cc e)
as_implies (or f g) = inr (λ w. let e = w.2 in cc e)
as_implies (implies f g) = inl (f, g, refl)
as_implies (forall x f) = inr (λ w. let e = w.2 in cc e)
as_implies (exists x f) = inr (λ w. let e = w.2 in cc e)
as_implies (says t f) = inr (λ w. let e = w.2 in cc e)
as_implies (speaks_for t u) = inr (λ w. let e = w.2 in cc e)
as_implies (speaks_for_on t u s) = inr (λ w. let e = w.2 in cc e)

abbrev IsForallFormula : FormulaTree → Type 0
IsForallFormula f = (a : List ℕ) × (b : FormulaTree) × (f ≡ forall a b)

pub as_forall : (f : FormulaTree) → Decided (IsForallFormula f)
as_forall verum = inr (λ w. let e = w.2 in cc e)
as_forall falsum = inr (λ w. let e = w.2 in cc e)
as_forall (atom x ts) = inr (λ w. let e = w.2 in cc e)
as_forall (test c t u) = inr (λ w. let e = w.2 in cc e)
as_forall (and f g) = inr (λ w. let e = w.2 in cc e)
as_forall (or f g) = inr (λ w. let e = w.2 in cc e)
as_forall (implies f g) = inr (λ w. let e = w.2 in cc e)
as_forall (forall x f) = inl (x, f, refl)
as_forall (exists x f) = inr (λ w. let e = w.2 in cc e)
as_forall (says t f) = inr (λ w. let e = w.2 in cc e)
as_forall (speaks_for t u) = inr (λ w. let e = w.2 in cc e)
as_forall (speaks_for_on t u s) = inr (λ w. let e = w.2 in cc e)

abbrev IsExistsFormula : FormulaTree → Type 0
IsExistsFormula f = (a : List ℕ) × (b : FormulaTree) × (f ≡ exists a b)

pub as_exists : (f : FormulaTree) → Decided (IsExistsFormula f)
as_exists verum = inr (λ w. let e = w.2 in cc e)
as_exists falsum = inr (λ w. let e = w.2 in cc e)
as_exists (atom x ts) = inr (λ w. let e = w.2 in cc e)
as_exists (test c t u) = inr (λ w. let e = w.2 in cc e)
as_exists (and f g) = inr (λ w. let e = w.2 in cc e)
as_exists (or f g) = inr (λ w. let e = w.2 in cc e)
as_exists (implies f g) = inr (λ w. let e = w.2 in cc e)
as_exists (forall x f) = inr (λ w. let e = w.2 in cc e)
as_exists (exists x f) = inl (x, f, refl)
as_exists (says t f) = inr (λ w. let e = w.2 in cc e)
as_exists (speaks_for t u) = inr (λ w. let e = w.2 in cc e)
as_exists (speaks_for_on t u s) = inr (λ w. let e = w.2 in cc e)

abbrev IsSaysFormula : FormulaTree → Type 0
IsSaysFormula f = (a : TermTree) × (b : FormulaTree) × (f ≡ says a b)

pub as_says : (f : FormulaTree) → Decided (IsSaysFormula f)
as_says verum = inr (λ w. let e = w.2 in cc e)
as_says falsum = inr (λ w. let e = w.2 in cc e)
as_says (atom x ts) = inr (λ w. let e = w.2 in cc e)
as_says (test c t u) = inr (λ w. let e = w.2 in cc e)
as_says (and f g) = inr (λ w. let e = w.2 in cc e)
as_says (or f g) = inr (λ w. let e = w.2 in cc e)
as_says (implies f g) = inr (λ w. let e = w.2 in cc e)
as_says (forall x f) = inr (λ w. let e = w.2 in cc e)
as_says (exists x f) = inr (λ w. let e = w.2 in cc e)
as_says (says t f) = inl (t, f, refl)
as_says (speaks_for t u) = inr (λ w. let e = w.2 in cc e)
as_says (speaks_for_on t u s) = inr (λ w. let e = w.2 in cc e)

abbrev IsSpeaksForFormula : FormulaTree → Type 0
IsSpeaksForFormula f = (a : TermTree) × (b : TermTree) × (f ≡ speaks_for a b)

pub as_speaks_for : (f : FormulaTree) → Decided (IsSpeaksForFormula f)
as_speaks_for verum = inr (λ w. let e = w.2 in cc e)
as_speaks_for falsum = inr (λ w. let e = w.2 in cc e)
as_speaks_for (atom x ts) = inr (λ w. let e = w.2 in cc e)
as_speaks_for (test c t u) = inr (λ w. let e = w.2 in cc e)
as_speaks_for (and f g) = inr (λ w. let e = w.2 in cc e)
as_speaks_for (or f g) = inr (λ w. let e = w.2 in cc e)
as_speaks_for (implies f g) = inr (λ w. let e = w.2 in cc e)
as_speaks_for (forall x f) = inr (λ w. let e = w.2 in cc e)
as_speaks_for (exists x f) = inr (λ w. let e = w.2 in cc e)
as_speaks_for (says t f) = inr (λ w. let e = w.2 in cc e)
as_speaks_for (speaks_for t u) = inl (t, u, refl)
as_speaks_for (speaks_for_on t u s) = inr (λ w. let e = w.2 in cc e)

abbrev IsSpeaksForOnFormula : FormulaTree → Type 0
IsSpeaksForOnFormula f = (a : TermTree) × (b : TermTree) × (d : List (List ℕ)) × (f ≡ speaks_for_on a b d)

pub as_speaks_for_on : (f : FormulaTree) → Decided (IsSpeaksForOnFormula f)
as_speaks_for_on verum = inr (λ w. let e = w.3 in cc e)
as_speaks_for_on falsum = inr (λ w. let e = w.3 in cc e)
as_speaks_for_on (atom x ts) = inr (λ w. let e = w.3 in cc e)
as_speaks_for_on (test c t u) = inr (λ w. let e = w.3 in cc e)
as_speaks_for_on (and f g) = inr (λ w. let e = w.3 in cc e)
as_speaks_for_on (or f g) = inr (λ w. let e = w.3 in cc e)
as_speaks_for_on (implies f g) = inr (λ w. let e = w.3 in cc e)
as_speaks_for_on (forall x f) = inr (λ w. let e = w.3 in cc e)
as_speaks_for_on (exists x f) = inr (λ w. let e = w.3 in cc e)
as_speaks_for_on (says t f) = inr (λ w. let e = w.3 in cc e)
as_speaks_for_on (speaks_for t u) = inr (λ w. let e = w.3 in cc e)
as_speaks_for_on (speaks_for_on t u s) = inl (t, u, s, refl)

abbrev IsTestFormula : FormulaTree → Type 0
IsTestFormula f = (a : Compare) × (b : TermTree) × (d : TermTree) × (f ≡ test a b d)

pub as_test : (f : FormulaTree) → Decided (IsTestFormula f)
as_test verum = inr (λ w. let e = w.3 in cc e)
as_test falsum = inr (λ w. let e = w.3 in cc e)
as_test (atom x ts) = inr (λ w. let e = w.3 in cc e)
as_test (test c t u) = inl (c, t, u, refl)
as_test (and f g) = inr (λ w. let e = w.3 in cc e)
as_test (or f g) = inr (λ w. let e = w.3 in cc e)
as_test (implies f g) = inr (λ w. let e = w.3 in cc e)
as_test (forall x f) = inr (λ w. let e = w.3 in cc e)
as_test (exists x f) = inr (λ w. let e = w.3 in cc e)
as_test (says t f) = inr (λ w. let e = w.3 in cc e)
as_test (speaks_for t u) = inr (λ w. let e = w.3 in cc e)
as_test (speaks_for_on t u s) = inr (λ w. let e = w.3 in cc e)

pub as_part : (t : TermTree) → Decided ((u : TermTree) × (n : List ℕ) × (t ≡ subprincipal u n))
as_part (number n) = inr (λ w. let e = w.2 in cc e)
as_part (name x) = inr (λ w. let e = w.2 in cc e)
as_part (text x) = inr (λ w. let e = w.2 in cc e)
as_part (variable x) = inr (λ w. let e = w.2 in cc e)
as_part (subprincipal t x) = inl (t, x, refl)

and_l_parts : (p c : FormulaTree) (x : FormulaTree) (y : FormulaTree) → p ≡ and x y → Decided (HasForm AndL (p ∷ []) None c)
and_l_parts p c x y e =
    decided_as (x ≡ c) (HasForm AndL (p ∷ []) None c) (same_formula x c) (λ w. (y, cc (e, w))) (λ (z, d). cc (e, d))

and_l_view_0 : (p c : FormulaTree) → Decided (IsAndFormula p) → Decided (HasForm AndL (p ∷ []) None c)
and_l_view_0 p c (inl (x, y, e)) = and_l_parts p c x y e
and_l_view_0 p c (inr n) = inr (λ (z, d). n (c, z, d))

and_r_parts : (p c : FormulaTree) (x : FormulaTree) (y : FormulaTree) → p ≡ and x y → Decided (HasForm AndR (p ∷ []) None c)
and_r_parts p c x y e =
    decided_as (y ≡ c) (HasForm AndR (p ∷ []) None c) (same_formula y c) (λ w. (x, cc (e, w))) (λ (z, d). cc (e, d))

and_r_view_0 : (p c : FormulaTree) → Decided (IsAndFormula p) → Decided (HasForm AndR (p ∷ []) None c)
and_r_view_0 p c (inl (x, y, e)) = and_r_parts p c x y e
and_r_view_0 p c (inr n) = inr (λ (z, d). n (z, c, d))

or_l_parts : (p c : FormulaTree) (x : FormulaTree) (y : FormulaTree) → c ≡ or x y → Decided (HasForm OrL (p ∷ []) None c)
or_l_parts p c x y e =
    decided_as (x ≡ p) (HasForm OrL (p ∷ []) None c) (same_formula x p) (λ w. (y, cc (e, w))) (λ (z, d). cc (e, d))

or_l_view_0 : (p c : FormulaTree) → Decided (IsOrFormula c) → Decided (HasForm OrL (p ∷ []) None c)
or_l_view_0 p c (inl (x, y, e)) = or_l_parts p c x y e
or_l_view_0 p c (inr n) = inr (λ (z, d). n (p, z, d))

or_r_parts : (p c : FormulaTree) (x : FormulaTree) (y : FormulaTree) → c ≡ or x y → Decided (HasForm OrR (p ∷ []) None c)
or_r_parts p c x y e =
    decided_as (y ≡ p) (HasForm OrR (p ∷ []) None c) (same_formula y p) (λ w. (x, cc (e, w))) (λ (z, d). cc (e, d))

or_r_view_0 : (p c : FormulaTree) → Decided (IsOrFormula c) → Decided (HasForm OrR (p ∷ []) None c)
or_r_view_0 p c (inl (x, y, e)) = or_r_parts p c x y e
or_r_view_0 p c (inr n) = inr (λ (z, d). n (z, p, d))

forall_i_parts : (p c : FormulaTree) (x : List ℕ) (y : FormulaTree) → c ≡ forall x y → Decided (HasForm ForallI (p ∷ []) None c)
forall_i_parts p c x y e =
    decided_as (y ≡ p) (HasForm ForallI (p ∷ []) None c) (same_formula y p) (λ w. (x, cc (e, w))) (λ (z, d). cc (e, d))

forall_i_view_0 : (p c : FormulaTree) → Decided (IsForallFormula c) → Decided (HasForm ForallI (p ∷ []) None c)
forall_i_view_0 p c (inl (x, y, e)) = forall_i_parts p c x y e
forall_i_view_0 p c (inr n) = inr (λ (z, d). n (z, p, d))

exists_e_parts : (p a b c : FormulaTree) (x : List ℕ) (y : FormulaTree) → p ≡ exists x y → Decided (HasForm ExistsE (p ∷ a ∷ b ∷ []) None c)
exists_e_parts p a b c x y e =
    decided_as ((y ≡ a) × (b ≡ c)) (HasForm ExistsE (p ∷ a ∷ b ∷ []) None c) (decided_both (y ≡ a) (b ≡ c) (same_formula y a) (same_formula b c)) (λ w. let w0 = w.0 in (x, (cc (e, w0)), w.1)) (λ (z, i, j). ((cc (e, i)), j))

exists_e_view_0 : (p a b c : FormulaTree) → Decided (IsExistsFormula p) → Decided (HasForm ExistsE (p ∷ a ∷ b ∷ []) None c)
exists_e_view_0 p a b c (inl (x, y, e)) = exists_e_parts p a b c x y e
exists_e_view_0 p a b c (inr n) = inr (λ (z, i, j). n (z, a, i))

eq_refl_parts : (c : FormulaTree) (k : Compare) (x : TermTree) (y : TermTree) → c ≡ test k x y → Decided (HasForm EqRefl [] None c)
eq_refl_parts c k x y e =
    decided_as ((k ≡ Equal) × (x ≡ y)) (HasForm EqRefl [] None c) (decided_both (k ≡ Equal) (x ≡ y) (same_compare k Equal) (same_term x y)) (λ w. let w0 = w.0 in let w1 = w.1 in (x, cc (e, w0, w1))) (λ (z, d). ((cc (e, d)), (cc (e, d))))

eq_refl_view_0 : (c : FormulaTree) → Decided (IsTestFormula c) → Decided (HasForm EqRefl [] None c)
eq_refl_view_0 c (inl (k, x, y, e)) = eq_refl_parts c k x y e
eq_refl_view_0 c (inr n) = inr (λ (z, d). n (Equal, z, z, d))

eq_sym_parts : (p c : FormulaTree) (k : Compare) (x : TermTree) (y : TermTree) → p ≡ test k x y → Decided (HasForm EqSym (p ∷ []) None c)
eq_sym_parts p c k x y e =
    decided_as ((k ≡ Equal) × (c ≡ test Equal y x)) (HasForm EqSym (p ∷ []) None c) (decided_both (k ≡ Equal) (c ≡ test Equal y x) (same_compare k Equal) (same_formula c (test Equal y x))) (λ w. let w0 = w.0 in (x, y, (cc (e, w0)), w.1)) (λ (z, v, i, j). ((cc (e, i)), (cc (e, i, j))))

eq_sym_view_0 : (p c : FormulaTree) → Decided (IsTestFormula p) → Decided (HasForm EqSym (p ∷ []) None c)
eq_sym_view_0 p c (inl (k, x, y, e)) = eq_sym_parts p c k x y e
eq_sym_view_0 p c (inr n) = inr (λ (z, v, i, j). n (Equal, z, v, i))

eq_trans_parts : (p q c : FormulaTree) (k : Compare) (x : TermTree) (y : TermTree) (l : Compare) (s : TermTree) (r : TermTree) → p ≡ test k x y → q ≡ test l s r → Decided (HasForm EqTrans (p ∷ q ∷ []) None c)
eq_trans_parts p q c k x y l s r e d =
    decided_as ((((k ≡ Equal) × (l ≡ Equal)) × (y ≡ s)) × (c ≡ test Equal x r)) (HasForm EqTrans (p ∷ q ∷ []) None c) (decided_both (((k ≡ Equal) × (l ≡ Equal)) × (y ≡ s)) (c ≡ test Equal x r) (decided_both ((k ≡ Equal) × (l ≡ Equal)) (y ≡ s) (decided_both (k ≡ Equal) (l ≡ Equal) (same_compare k Equal) (same_compare l Equal)) (same_term y s)) (same_formula c (test Equal x r))) (λ w. let w0 = w.0.0.0 in let w1 = w.0.0.1 in let w2 = w.0.1 in (x, y, r, (cc (e, w0)), (cc (d, w1, w2)), w.1)) (λ (z, v, u, i, j, m). ((((cc (e, i)), (cc (d, j))), (cc (e, d, i, j))), (cc (e, d, i, j, m))))

eq_trans_view_1 : (p q c : FormulaTree) (k : Compare) (x : TermTree) (y : TermTree) → p ≡ test k x y → Decided (IsTestFormula q) → Decided (HasForm EqTrans (p ∷ q ∷ []) None c)
eq_trans_view_1 p q c k x y e (inl (l, s, r, d)) = eq_trans_parts p q c k x y l s r e d
eq_trans_view_1 p q c k x y e (inr n) = inr (λ (z, v, u, i, j, m). n (Equal, v, u, j))

eq_trans_view_0 : (p q c : FormulaTree) → Decided (IsTestFormula p) → Decided (HasForm EqTrans (p ∷ q ∷ []) None c)
eq_trans_view_0 p q c (inl (k, x, y, e)) = eq_trans_view_1 p q c k x y e (as_test q)
eq_trans_view_0 p q c (inr n) = inr (λ (z, v, u, i, j, m). n (Equal, z, v, i))

says_i_parts : (p c : FormulaTree) (x : TermTree) (y : FormulaTree) → c ≡ says x y → Decided (HasForm SaysI (p ∷ []) None c)
says_i_parts p c x y e =
    decided_as (y ≡ p) (HasForm SaysI (p ∷ []) None c) (same_formula y p) (λ w. (x, cc (e, w))) (λ (z, d). cc (e, d))

says_i_view_0 : (p c : FormulaTree) → Decided (IsSaysFormula c) → Decided (HasForm SaysI (p ∷ []) None c)
says_i_view_0 p c (inl (x, y, e)) = says_i_parts p c x y e
says_i_view_0 p c (inr n) = inr (λ (z, d). n (z, p, d))

deduce_parts : (p q c : FormulaTree) (x : TermTree) (y : FormulaTree) (r : FormulaTree) (s : FormulaTree) → p ≡ says x y → y ≡ implies r s → Decided (HasForm Deduce (p ∷ q ∷ []) None c)
deduce_parts p q c x y r s e d =
    decided_as ((q ≡ says x r) × (c ≡ says x s)) (HasForm Deduce (p ∷ q ∷ []) None c) (decided_both (q ≡ says x r) (c ≡ says x s) (same_formula q (says x r)) (same_formula c (says x s))) (λ w. (x, r, s, (cc (e, d)), w.0, w.1)) (λ (z, u, v, i, j, m). ((cc (e, d, i, j)), (cc (e, d, i, m))))

deduce_view_1 : (p q c : FormulaTree) (x : TermTree) (y : FormulaTree) → p ≡ says x y → Decided (IsImpliesFormula y) → Decided (HasForm Deduce (p ∷ q ∷ []) None c)
deduce_view_1 p q c x y e (inl (r, s, d)) = deduce_parts p q c x y r s e d
deduce_view_1 p q c x y e (inr n) = inr (λ (z, u, v, i, j, m). n (u, v, cc (e, i)))

deduce_view_0 : (p q c : FormulaTree) → Decided (IsSaysFormula p) → Decided (HasForm Deduce (p ∷ q ∷ []) None c)
deduce_view_0 p q c (inl (x, y, e)) = deduce_view_1 p q c x y e (as_implies y)
deduce_view_0 p q c (inr n) = inr (λ (z, u, v, i, j, m). n (z, implies u v, i))

says_join_parts : (p c : FormulaTree) (x : TermTree) (y : FormulaTree) → c ≡ says x y → Decided (HasForm SaysJoin (p ∷ []) None c)
says_join_parts p c x y e =
    decided_as (p ≡ says x c) (HasForm SaysJoin (p ∷ []) None c) (same_formula p (says x c)) (λ w. (x, y, (cc (e, w)), e)) (λ (z, v, i, j). cc (e, i, j))

says_join_view_0 : (p c : FormulaTree) → Decided (IsSaysFormula c) → Decided (HasForm SaysJoin (p ∷ []) None c)
says_join_view_0 p c (inl (x, y, e)) = says_join_parts p c x y e
says_join_view_0 p c (inr n) = inr (λ (z, v, i, j). n (z, v, j))

sf_refl_parts : (c : FormulaTree) (x : TermTree) (y : TermTree) → c ≡ speaks_for x y → Decided (HasForm SfRefl [] None c)
sf_refl_parts c x y e =
    decided_as (x ≡ y) (HasForm SfRefl [] None c) (same_term x y) (λ w. (x, cc (e, w))) (λ (z, d). cc (e, d))

sf_refl_view_0 : (c : FormulaTree) → Decided (IsSpeaksForFormula c) → Decided (HasForm SfRefl [] None c)
sf_refl_view_0 c (inl (x, y, e)) = sf_refl_parts c x y e
sf_refl_view_0 c (inr n) = inr (λ (z, d). n (z, z, d))

sf_trans_parts : (p q c : FormulaTree) (x : TermTree) (y : TermTree) (s : TermTree) (r : TermTree) → p ≡ speaks_for x y → q ≡ speaks_for s r → Decided (HasForm SfTrans (p ∷ q ∷ []) None c)
sf_trans_parts p q c x y s r e d =
    decided_as ((y ≡ s) × (c ≡ speaks_for x r)) (HasForm SfTrans (p ∷ q ∷ []) None c) (decided_both (y ≡ s) (c ≡ speaks_for x r) (same_term y s) (same_formula c (speaks_for x r))) (λ w. let w0 = w.0 in (x, y, r, e, (cc (d, w0)), w.1)) (λ (z, v, u, i, j, m). ((cc (e, d, i, j)), (cc (e, d, i, j, m))))

sf_trans_view_1 : (p q c : FormulaTree) (x : TermTree) (y : TermTree) → p ≡ speaks_for x y → Decided (IsSpeaksForFormula q) → Decided (HasForm SfTrans (p ∷ q ∷ []) None c)
sf_trans_view_1 p q c x y e (inl (s, r, d)) = sf_trans_parts p q c x y s r e d
sf_trans_view_1 p q c x y e (inr n) = inr (λ (z, v, u, i, j, m). n (v, u, j))

sf_trans_view_0 : (p q c : FormulaTree) → Decided (IsSpeaksForFormula p) → Decided (HasForm SfTrans (p ∷ q ∷ []) None c)
sf_trans_view_0 p q c (inl (x, y, e)) = sf_trans_view_1 p q c x y e (as_speaks_for q)
sf_trans_view_0 p q c (inr n) = inr (λ (z, v, u, i, j, m). n (z, v, i))

sf_e_parts : (p q c : FormulaTree) (x : TermTree) (y : TermTree) (s : TermTree) (r : FormulaTree) → p ≡ speaks_for x y → q ≡ says s r → Decided (HasForm SfE (p ∷ q ∷ []) None c)
sf_e_parts p q c x y s r e d =
    decided_as ((x ≡ s) × (c ≡ says y r)) (HasForm SfE (p ∷ q ∷ []) None c) (decided_both (x ≡ s) (c ≡ says y r) (same_term x s) (same_formula c (says y r))) (λ w. let w0 = w.0 in (x, y, r, e, (cc (d, w0)), w.1)) (λ (z, v, u, i, j, m). ((cc (e, d, i, j)), (cc (e, d, i, j, m))))

sf_e_view_1 : (p q c : FormulaTree) (x : TermTree) (y : TermTree) → p ≡ speaks_for x y → Decided (IsSaysFormula q) → Decided (HasForm SfE (p ∷ q ∷ []) None c)
sf_e_view_1 p q c x y e (inl (s, r, d)) = sf_e_parts p q c x y s r e d
sf_e_view_1 p q c x y e (inr n) = inr (λ (z, v, u, i, j, m). n (z, u, j))

sf_e_view_0 : (p q c : FormulaTree) → Decided (IsSpeaksForFormula p) → Decided (HasForm SfE (p ∷ q ∷ []) None c)
sf_e_view_0 p q c (inl (x, y, e)) = sf_e_view_1 p q c x y e (as_says q)
sf_e_view_0 p q c (inr n) = inr (λ (z, v, u, i, j, m). n (z, v, i))

sf_on_e_parts : (p q c : FormulaTree) (x : TermTree) (y : TermTree) (o : List (List ℕ)) (s : TermTree) (r : FormulaTree) → p ≡ speaks_for_on x y o → q ≡ says s r → Decided (HasForm SfOnE (p ∷ q ∷ []) None c)
sf_on_e_parts p q c x y o s r e d =
    decided_as ((x ≡ s) × (c ≡ says y r)) (HasForm SfOnE (p ∷ q ∷ []) None c) (decided_both (x ≡ s) (c ≡ says y r) (same_term x s) (same_formula c (says y r))) (λ w. let w0 = w.0 in (x, y, o, r, e, (cc (d, w0)), w.1)) (λ (z, v, n2, u, i, j, m). ((cc (e, d, i, j)), (cc (e, d, i, j, m))))

sf_on_e_view_1 : (p q c : FormulaTree) (x : TermTree) (y : TermTree) (o : List (List ℕ)) → p ≡ speaks_for_on x y o → Decided (IsSaysFormula q) → Decided (HasForm SfOnE (p ∷ q ∷ []) None c)
sf_on_e_view_1 p q c x y o e (inl (s, r, d)) = sf_on_e_parts p q c x y o s r e d
sf_on_e_view_1 p q c x y o e (inr n) = inr (λ (z, v, n2, u, i, j, m). n (z, u, j))

sf_on_e_view_0 : (p q c : FormulaTree) → Decided (IsSpeaksForOnFormula p) → Decided (HasForm SfOnE (p ∷ q ∷ []) None c)
sf_on_e_view_0 p q c (inl (x, y, o, e)) = sf_on_e_view_1 p q c x y o e (as_says q)
sf_on_e_view_0 p q c (inr n) = inr (λ (z, v, n2, u, i, j, m). n (z, v, n2, i))

sf_weak_parts : (p c : FormulaTree) (x : TermTree) (y : TermTree) (s : TermTree) (r : TermTree) (o : List (List ℕ)) → p ≡ speaks_for x y → c ≡ speaks_for_on s r o → Decided (HasForm SfWeak (p ∷ []) None c)
sf_weak_parts p c x y s r o e d =
    decided_as ((x ≡ s) × (y ≡ r)) (HasForm SfWeak (p ∷ []) None c) (decided_both (x ≡ s) (y ≡ r) (same_term x s) (same_term y r)) (λ w. let w0 = w.0 in let w1 = w.1 in (x, y, o, e, (cc (d, w0, w1)))) (λ (z, v, n2, i, j). ((cc (e, d, i, j)), (cc (e, d, i, j))))

sf_weak_view_1 : (p c : FormulaTree) (x : TermTree) (y : TermTree) → p ≡ speaks_for x y → Decided (IsSpeaksForOnFormula c) → Decided (HasForm SfWeak (p ∷ []) None c)
sf_weak_view_1 p c x y e (inl (s, r, o, d)) = sf_weak_parts p c x y s r o e d
sf_weak_view_1 p c x y e (inr n) = inr (λ (z, v, n2, i, j). n (z, v, n2, j))

sf_weak_view_0 : (p c : FormulaTree) → Decided (IsSpeaksForFormula p) → Decided (HasForm SfWeak (p ∷ []) None c)
sf_weak_view_0 p c (inl (x, y, e)) = sf_weak_view_1 p c x y e (as_speaks_for_on c)
sf_weak_view_0 p c (inr n) = inr (λ (z, v, n2, i, j). n (z, v, i))

handoff_parts : (p c : FormulaTree) (x : TermTree) (y : TermTree) → c ≡ speaks_for x y → Decided (HasForm Handoff (p ∷ []) None c)
handoff_parts p c x y e =
    decided_as (p ≡ says y c) (HasForm Handoff (p ∷ []) None c) (same_formula p (says y c)) (λ w. (x, y, (cc (e, w)), e)) (λ (z, v, i, j). cc (e, i, j))

handoff_view_0 : (p c : FormulaTree) → Decided (IsSpeaksForFormula c) → Decided (HasForm Handoff (p ∷ []) None c)
handoff_view_0 p c (inl (x, y, e)) = handoff_parts p c x y e
handoff_view_0 p c (inr n) = inr (λ (z, v, i, j). n (z, v, j))

handoff_on_parts : (p c : FormulaTree) (x : TermTree) (y : TermTree) (o : List (List ℕ)) → c ≡ speaks_for_on x y o → Decided (HasForm HandoffOn (p ∷ []) None c)
handoff_on_parts p c x y o e =
    decided_as (p ≡ says y c) (HasForm HandoffOn (p ∷ []) None c) (same_formula p (says y c)) (λ w. (x, y, o, (cc (e, w)), e)) (λ (z, v, u, i, j). cc (e, i, j))

handoff_on_view_0 : (p c : FormulaTree) → Decided (IsSpeaksForOnFormula c) → Decided (HasForm HandoffOn (p ∷ []) None c)
handoff_on_view_0 p c (inl (x, y, o, e)) = handoff_on_parts p c x y o e
handoff_on_view_0 p c (inr n) = inr (λ (z, v, u, i, j). n (z, v, u, j))

pub either_decided : (P Q : Type 0) → Decided P → Decided Q → Decided (P ⊎ Q)
either_decided P Q (inl p) d = inl (inl p)
either_decided P Q (inr n) (inl q) = inl (inr q)
either_decided P Q (inr n) (inr m) = inr (λ w. ⊎_elim n m w)

less_side : (q : FormulaTree) (u v : TermTree) → (q ≡ test Less u v) ⊎ (q ≡ test AtMost u v) → IsTestFormula q
less_side q u v (inl e) = (Less, u, v, e)
less_side q u v (inr e) = (AtMost, u, v, e)

lt_trans_parts : (p q c : FormulaTree) (k : Compare) (x y : TermTree) (l : Compare) (s r : TermTree) → p ≡ test k x y → q ≡ test l s r → Decided (HasForm LtTrans (p ∷ q ∷ []) None c)
lt_trans_parts p q c k x y l s r e d =
    decided_as ((((k ≡ Less) × ((q ≡ test Less y r) ⊎ (q ≡ test AtMost y r)))) × (c ≡ test Less x r)) (HasForm LtTrans (p ∷ q ∷ []) None c)
    (decided_both ((k ≡ Less) × ((q ≡ test Less y r) ⊎ (q ≡ test AtMost y r))) (c ≡ test Less x r) (decided_both (k ≡ Less) ((q ≡ test Less y r) ⊎ (q ≡ test AtMost y r)) (same_compare k Less) (either_decided (q ≡ test Less y r) (q ≡ test AtMost y r) (same_formula q (test Less y r)) (same_formula q (test AtMost y r)))) (same_formula c (test Less x r)))
    (λ w. let w0 = w.0.0 in (x, y, r, (cc (e, w0)), w.0.1, w.1))
    (λ (z, v, u, i, j, m). ⊎_elim (λ (j : q ≡ test Less v u). (((cc (e, i)), inl (cc (e, d, i, j))), (cc (e, d, i, j, m)))) (λ (j : q ≡ test AtMost v u). (((cc (e, i)), inr (cc (e, d, i, j))), (cc (e, d, i, j, m)))) j)

lt_trans_view_1 : (p q c : FormulaTree) (k : Compare) (x y : TermTree) → p ≡ test k x y → Decided (IsTestFormula q) → Decided (HasForm LtTrans (p ∷ q ∷ []) None c)
lt_trans_view_1 p q c k x y e (inl (l, s, r, d)) = lt_trans_parts p q c k x y l s r e d
lt_trans_view_1 p q c k x y e (inr n) = inr (λ (z, v, u, i, j, m). n (less_side q v u j))

lt_trans_view_0 : (p q c : FormulaTree) → Decided (IsTestFormula p) → Decided (HasForm LtTrans (p ∷ q ∷ []) None c)
lt_trans_view_0 p q c (inl (k, x, y, e)) = lt_trans_view_1 p q c k x y e (as_test q)
lt_trans_view_0 p q c (inr n) = inr (λ (z, v, u, i, j, m). n (Less, z, v, i))

sf_sub_parts : (c : FormulaTree) (x y : TermTree) → c ≡ speaks_for x y → Decided ((u : TermTree) × (n : List ℕ) × (y ≡ subprincipal u n)) → Decided (HasForm SfSub [] None c)
sf_sub_parts c x y e (inl (u, m, d)) =
    decided_as (x ≡ u) (HasForm SfSub [] None c) (same_term x u) (λ w. (x, m, cc (e, d, w))) (λ (z, v, i). cc (e, d, i))
sf_sub_parts c x y e (inr n) = inr (λ (z, v, i). n (z, v, cc (e, i)))

sf_sub_view_0 : (c : FormulaTree) → Decided (IsSpeaksForFormula c) → Decided (HasForm SfSub [] None c)
sf_sub_view_0 c (inl (x, y, e)) = sf_sub_parts c x y e (as_part y)
sf_sub_view_0 c (inr n) = inr (λ (z, v, i). n (z, subprincipal z v, i))

with_same : (x y : List ℕ) (t : TermTree) (a b : FormulaTree) (o : Option FormulaTree) → x ≡ y → a ≡ b → formula_with x t a ≡ o → formula_with y t b ≡ o
with_same x y t a b o e d w =
    subst (λ z. formula_with z t b ≡ o) e (subst (λ z. formula_with x t z ≡ o) d w)

made_decided : (o : Option FormulaTree) (g : FormulaTree) → Decided ((b : FormulaTree) → o ≡ Some b → g ≡ b)
made_decided None g = inl (λ b e. absurd (cc e))
made_decided (Some f) g =
    decided_as (g ≡ f) ((b : FormulaTree) → Some f ≡ Some b → g ≡ b) (same_formula g f) (λ w b e. cc (w, e)) (λ m. m f refl)

forall_e_view_0 : (p c : FormulaTree) (t : TermTree) → Decided (IsForallFormula p) → Decided (HasForm ForallE (p ∷ []) (Some t) c)
forall_e_view_0 p c t (inl (x, a, e)) =
    decided_as ((b : FormulaTree) → formula_with x t a ≡ Some b → c ≡ b) (HasForm ForallE (p ∷ []) (Some t) c) (made_decided (formula_with x t a) c) (λ w. (x, a, e, w)) (λ (z, f, d, s). λ b w. s b (with_same x z t a f (Some b) (cc (e, d)) (cc (e, d)) w))
forall_e_view_0 p c t (inr n) = inr (λ (z, f, d, s). n (z, f, d))

exists_i_view_0 : (p c : FormulaTree) (t : TermTree) → Decided (IsExistsFormula c) → Decided (HasForm ExistsI (p ∷ []) (Some t) c)
exists_i_view_0 p c t (inl (x, a, e)) =
    decided_as ((b : FormulaTree) → formula_with x t a ≡ Some b → p ≡ b) (HasForm ExistsI (p ∷ []) (Some t) c) (made_decided (formula_with x t a) p) (λ w. (x, a, e, w)) (λ (z, f, d, s). λ b w. s b (with_same x z t a f (Some b) (cc (e, d)) (cc (e, d)) w))
exists_i_view_0 p c t (inr n) = inr (λ (z, f, d, s). n (z, f, d))

-- a line has the form of its rule, or has not
pub form_decided : (premises : List FormulaTree) (t : Option TermTree) (c : FormulaTree) (r : Rule) → Decided (HasForm r premises t c)
form_decided (h1 ∷ fs) t c Label = inr (λ h. h)
form_decided [] (Some t) c Label = inr (λ h. h)
form_decided [] None c Label = inl tt
form_decided (h1 ∷ fs) t c Ask = inr (λ h. h)
form_decided [] (Some t) c Ask = inr (λ h. h)
form_decided [] None c Ask = inl tt
form_decided (h1 ∷ fs) t c Hyp = inr (λ h. h)
form_decided [] (Some t) c Hyp = inr (λ h. h)
form_decided [] None c Hyp = inl tt
form_decided (h1 ∷ fs) t c TrueI = inr (λ h. h)
form_decided [] (Some t) c TrueI = inr (λ h. h)
form_decided [] None c TrueI = same_formula c verum
form_decided [] t c AndI = inr (λ h. h)
form_decided (p ∷ []) t c AndI = inr (λ h. h)
form_decided (p ∷ q ∷ h1 ∷ fs) t c AndI = inr (λ h. h)
form_decided (p ∷ q ∷ []) (Some t) c AndI = inr (λ h. h)
form_decided (p ∷ q ∷ []) None c AndI = same_formula c (and p q)
form_decided [] t c AndL = inr (λ h. h)
form_decided (p ∷ h1 ∷ fs) t c AndL = inr (λ h. h)
form_decided (p ∷ []) (Some t) c AndL = inr (λ h. h)
form_decided (p ∷ []) None c AndL = and_l_view_0 p c (as_and p)
form_decided [] t c AndR = inr (λ h. h)
form_decided (p ∷ h1 ∷ fs) t c AndR = inr (λ h. h)
form_decided (p ∷ []) (Some t) c AndR = inr (λ h. h)
form_decided (p ∷ []) None c AndR = and_r_view_0 p c (as_and p)
form_decided [] t c OrL = inr (λ h. h)
form_decided (p ∷ h1 ∷ fs) t c OrL = inr (λ h. h)
form_decided (p ∷ []) (Some t) c OrL = inr (λ h. h)
form_decided (p ∷ []) None c OrL = or_l_view_0 p c (as_or c)
form_decided [] t c OrR = inr (λ h. h)
form_decided (p ∷ h1 ∷ fs) t c OrR = inr (λ h. h)
form_decided (p ∷ []) (Some t) c OrR = inr (λ h. h)
form_decided (p ∷ []) None c OrR = or_r_view_0 p c (as_or c)
form_decided [] t c OrE = inr (λ h. h)
form_decided (p ∷ []) t c OrE = inr (λ h. h)
form_decided (p ∷ a ∷ []) t c OrE = inr (λ h. h)
form_decided (p ∷ a ∷ d ∷ []) t c OrE = inr (λ h. h)
form_decided (p ∷ a ∷ d ∷ b ∷ []) t c OrE = inr (λ h. h)
form_decided (p ∷ a ∷ d ∷ b ∷ g ∷ h1 ∷ fs) t c OrE = inr (λ h. h)
form_decided (p ∷ a ∷ d ∷ b ∷ g ∷ []) (Some t) c OrE = inr (λ h. h)
form_decided (p ∷ a ∷ d ∷ b ∷ g ∷ []) None c OrE = decided_as (((p ≡ or a b) × (d ≡ c)) × (g ≡ c)) ((p ≡ or a b) × (d ≡ c) × (g ≡ c)) (decided_both ((p ≡ or a b) × (d ≡ c)) (g ≡ c) (decided_both (p ≡ or a b) (d ≡ c) (same_formula p (or a b)) (same_formula d c)) (same_formula g c)) (λ w. (w.0.0, w.0.1, w.1)) (λ (i, j, k). ((i, j), k))
form_decided [] t c ImpI = inr (λ h. h)
form_decided (p ∷ []) t c ImpI = inr (λ h. h)
form_decided (p ∷ q ∷ h1 ∷ fs) t c ImpI = inr (λ h. h)
form_decided (p ∷ q ∷ []) (Some t) c ImpI = inr (λ h. h)
form_decided (p ∷ q ∷ []) None c ImpI = same_formula c (implies p q)
form_decided [] t c ImpE = inr (λ h. h)
form_decided (p ∷ []) t c ImpE = inr (λ h. h)
form_decided (p ∷ q ∷ h1 ∷ fs) t c ImpE = inr (λ h. h)
form_decided (p ∷ q ∷ []) (Some t) c ImpE = inr (λ h. h)
form_decided (p ∷ q ∷ []) None c ImpE = same_formula p (implies q c)
form_decided [] t c FalseE = inr (λ h. h)
form_decided (p ∷ h1 ∷ fs) t c FalseE = inr (λ h. h)
form_decided (p ∷ []) (Some t) c FalseE = inr (λ h. h)
form_decided (p ∷ []) None c FalseE = same_formula p falsum
form_decided [] t c ForallI = inr (λ h. h)
form_decided (p ∷ h1 ∷ fs) t c ForallI = inr (λ h. h)
form_decided (p ∷ []) (Some t) c ForallI = inr (λ h. h)
form_decided (p ∷ []) None c ForallI = forall_i_view_0 p c (as_forall c)
form_decided [] t c ForallE = inr (λ h. h)
form_decided (p ∷ h1 ∷ fs) t c ForallE = inr (λ h. h)
form_decided (p ∷ []) None c ForallE = inr (λ h. h)
form_decided (p ∷ []) (Some t) c ForallE = forall_e_view_0 p c t (as_forall p)
form_decided [] t c ExistsI = inr (λ h. h)
form_decided (p ∷ h1 ∷ fs) t c ExistsI = inr (λ h. h)
form_decided (p ∷ []) None c ExistsI = inr (λ h. h)
form_decided (p ∷ []) (Some t) c ExistsI = exists_i_view_0 p c t (as_exists c)
form_decided [] t c ExistsE = inr (λ h. h)
form_decided (p ∷ []) t c ExistsE = inr (λ h. h)
form_decided (p ∷ a ∷ []) t c ExistsE = inr (λ h. h)
form_decided (p ∷ a ∷ b ∷ h1 ∷ fs) t c ExistsE = inr (λ h. h)
form_decided (p ∷ a ∷ b ∷ []) (Some t) c ExistsE = inr (λ h. h)
form_decided (p ∷ a ∷ b ∷ []) None c ExistsE = exists_e_view_0 p a b c (as_exists p)
form_decided (h1 ∷ fs) t c EqRefl = inr (λ h. h)
form_decided [] (Some t) c EqRefl = inr (λ h. h)
form_decided [] None c EqRefl = eq_refl_view_0 c (as_test c)
form_decided [] t c EqSym = inr (λ h. h)
form_decided (p ∷ h1 ∷ fs) t c EqSym = inr (λ h. h)
form_decided (p ∷ []) (Some t) c EqSym = inr (λ h. h)
form_decided (p ∷ []) None c EqSym = eq_sym_view_0 p c (as_test p)
form_decided [] t c EqTrans = inr (λ h. h)
form_decided (p ∷ []) t c EqTrans = inr (λ h. h)
form_decided (p ∷ q ∷ h1 ∷ fs) t c EqTrans = inr (λ h. h)
form_decided (p ∷ q ∷ []) (Some t) c EqTrans = inr (λ h. h)
form_decided (p ∷ q ∷ []) None c EqTrans = eq_trans_view_0 p q c (as_test p)
form_decided (h1 ∷ fs) t c Arith = inr (λ h. h)
form_decided [] (Some t) c Arith = inr (λ h. h)
form_decided [] None c Arith = inl tt
form_decided [] t c LtTrans = inr (λ h. h)
form_decided (p ∷ []) t c LtTrans = inr (λ h. h)
form_decided (p ∷ q ∷ h1 ∷ fs) t c LtTrans = inr (λ h. h)
form_decided (p ∷ q ∷ []) (Some t) c LtTrans = inr (λ h. h)
form_decided (p ∷ q ∷ []) None c LtTrans = lt_trans_view_0 p q c (as_test p)
form_decided [] t c SaysI = inr (λ h. h)
form_decided (p ∷ h1 ∷ fs) t c SaysI = inr (λ h. h)
form_decided (p ∷ []) (Some t) c SaysI = inr (λ h. h)
form_decided (p ∷ []) None c SaysI = says_i_view_0 p c (as_says c)
form_decided [] t c Deduce = inr (λ h. h)
form_decided (p ∷ []) t c Deduce = inr (λ h. h)
form_decided (p ∷ q ∷ h1 ∷ fs) t c Deduce = inr (λ h. h)
form_decided (p ∷ q ∷ []) (Some t) c Deduce = inr (λ h. h)
form_decided (p ∷ q ∷ []) None c Deduce = deduce_view_0 p q c (as_says p)
form_decided [] t c SaysJoin = inr (λ h. h)
form_decided (p ∷ h1 ∷ fs) t c SaysJoin = inr (λ h. h)
form_decided (p ∷ []) (Some t) c SaysJoin = inr (λ h. h)
form_decided (p ∷ []) None c SaysJoin = says_join_view_0 p c (as_says c)
form_decided (h1 ∷ fs) t c SfRefl = inr (λ h. h)
form_decided [] (Some t) c SfRefl = inr (λ h. h)
form_decided [] None c SfRefl = sf_refl_view_0 c (as_speaks_for c)
form_decided [] t c SfTrans = inr (λ h. h)
form_decided (p ∷ []) t c SfTrans = inr (λ h. h)
form_decided (p ∷ q ∷ h1 ∷ fs) t c SfTrans = inr (λ h. h)
form_decided (p ∷ q ∷ []) (Some t) c SfTrans = inr (λ h. h)
form_decided (p ∷ q ∷ []) None c SfTrans = sf_trans_view_0 p q c (as_speaks_for p)
form_decided (h1 ∷ fs) t c SfSub = inr (λ h. h)
form_decided [] (Some t) c SfSub = inr (λ h. h)
form_decided [] None c SfSub = sf_sub_view_0 c (as_speaks_for c)
form_decided [] t c SfE = inr (λ h. h)
form_decided (p ∷ []) t c SfE = inr (λ h. h)
form_decided (p ∷ q ∷ h1 ∷ fs) t c SfE = inr (λ h. h)
form_decided (p ∷ q ∷ []) (Some t) c SfE = inr (λ h. h)
form_decided (p ∷ q ∷ []) None c SfE = sf_e_view_0 p q c (as_speaks_for p)
form_decided [] t c SfOnE = inr (λ h. h)
form_decided (p ∷ []) t c SfOnE = inr (λ h. h)
form_decided (p ∷ q ∷ h1 ∷ fs) t c SfOnE = inr (λ h. h)
form_decided (p ∷ q ∷ []) (Some t) c SfOnE = inr (λ h. h)
form_decided (p ∷ q ∷ []) None c SfOnE = sf_on_e_view_0 p q c (as_speaks_for_on p)
form_decided [] t c SfWeak = inr (λ h. h)
form_decided (p ∷ h1 ∷ fs) t c SfWeak = inr (λ h. h)
form_decided (p ∷ []) (Some t) c SfWeak = inr (λ h. h)
form_decided (p ∷ []) None c SfWeak = sf_weak_view_0 p c (as_speaks_for p)
form_decided [] t c Handoff = inr (λ h. h)
form_decided (p ∷ h1 ∷ fs) t c Handoff = inr (λ h. h)
form_decided (p ∷ []) (Some t) c Handoff = inr (λ h. h)
form_decided (p ∷ []) None c Handoff = handoff_view_0 p c (as_speaks_for c)
form_decided [] t c HandoffOn = inr (λ h. h)
form_decided (p ∷ h1 ∷ fs) t c HandoffOn = inr (λ h. h)
form_decided (p ∷ []) (Some t) c HandoffOn = inr (λ h. h)
form_decided (p ∷ []) None c HandoffOn = handoff_on_view_0 p c (as_speaks_for_on c)
