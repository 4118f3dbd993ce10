-- Whether two formulas are the same tree is decided. A copy of each type of trees has its answer derived,
-- and the trees are a part of their copies.
use Rattle.std.proofs.Common.{◌≡◌, ◌⊎◌, ℕ, List, [], ◌∷◌, map, refl, sym, ap, ap₂, ◌∙◌, inl, inr}
use Rattle.std.proofs.Math.Decide.{ℕ_discrete}
use mathlib.Core.List.{List-discrete}
use Rattle.nal_term.specs.declared.formulas.Compare.{Compare}
use Rattle.nal_term.specs.declared.formulas.Compare.TheVariants.{Equal, Less, AtMost}
use Rattle.nal_term.specs.Trees.{TermTree, number, name, text, variable, subprincipal, FormulaTree, verum, falsum, atom, test, and, or, implies, forall, exists, says, speaks_for, speaks_for_on}

data CompareCopy : Type 0 where
  equals : CompareCopy
  less : CompareCopy
  at_most : CompareCopy
  deriving Discrete as same_compare_copy

data TermCopy : Type 0 where
  number_copy : ℕ → TermCopy
  name_copy : List ℕ → TermCopy
  text_copy : List ℕ → TermCopy
  variable_copy : List ℕ → TermCopy
  subprincipal_copy : TermCopy → List ℕ → TermCopy
  deriving Discrete as same_term_copy

data FormulaCopy : Type 0 where
  verum_copy : FormulaCopy
  falsum_copy : FormulaCopy
  atom_copy : List ℕ → List TermCopy → FormulaCopy
  test_copy : CompareCopy → TermCopy → TermCopy → FormulaCopy
  and_copy : FormulaCopy → FormulaCopy → FormulaCopy
  or_copy : FormulaCopy → FormulaCopy → FormulaCopy
  implies_copy : FormulaCopy → FormulaCopy → FormulaCopy
  forall_copy : List ℕ → FormulaCopy → FormulaCopy
  exists_copy : List ℕ → FormulaCopy → FormulaCopy
  says_copy : TermCopy → FormulaCopy → FormulaCopy
  speaks_for_copy : TermCopy → TermCopy → FormulaCopy
  speaks_for_on_copy : TermCopy → TermCopy → List (List ℕ) → FormulaCopy
  deriving Discrete as same_formula_copy

term_copies : Discrete TermCopy
term_copies = same_term_copy ℕ_discrete (List-discrete ℕ_discrete)

formula_copies : Discrete FormulaCopy
formula_copies =
    same_formula_copy (List-discrete ℕ_discrete) (List-discrete term_copies) same_compare_copy term_copies (List-discrete (List-discrete ℕ_discrete))

abbrev copy_compare : Compare → CompareCopy
copy_compare Equal = equals
copy_compare Less = less
copy_compare AtMost = at_most

abbrev compare_of : CompareCopy → Compare
compare_of equals = Equal
compare_of less = Less
compare_of at_most = AtMost

compare_back : (c : Compare) → compare_of (copy_compare c) ≡ c
compare_back Equal = refl
compare_back Less = refl
compare_back AtMost = refl

abbrev copy_term : TermTree → TermCopy
copy_term (number n) = number_copy n
copy_term (name x) = name_copy x
copy_term (text x) = text_copy x
copy_term (variable x) = variable_copy x
copy_term (subprincipal t x) = subprincipal_copy (copy_term t) x

abbrev term_of : TermCopy → TermTree
term_of (number_copy n) = number n
term_of (name_copy x) = name x
term_of (text_copy x) = text x
term_of (variable_copy x) = variable x
term_of (subprincipal_copy t x) = subprincipal (term_of t) x

term_back : (t : TermTree) → term_of (copy_term t) ≡ t
term_back (number n) = refl
term_back (name x) = refl
term_back (text x) = refl
term_back (variable x) = refl
term_back (subprincipal t x) = ap (λ u. subprincipal u x) (term_back t)

terms_back : (ts : List TermTree) → map term_of (map copy_term ts) ≡ ts
terms_back [] = refl
terms_back (t ∷ ts) = ap₂ (λ u us. u ∷ us) (term_back t) (terms_back ts)

abbrev copy_formula : FormulaTree → FormulaCopy
copy_formula verum = verum_copy
copy_formula falsum = falsum_copy
copy_formula (atom p ts) = atom_copy p (map copy_term ts)
copy_formula (test c t u) = test_copy (copy_compare c) (copy_term t) (copy_term u)
copy_formula (and a b) = and_copy (copy_formula a) (copy_formula b)
copy_formula (or a b) = or_copy (copy_formula a) (copy_formula b)
copy_formula (implies a b) = implies_copy (copy_formula a) (copy_formula b)
copy_formula (forall x a) = forall_copy x (copy_formula a)
copy_formula (exists x a) = exists_copy x (copy_formula a)
copy_formula (says t a) = says_copy (copy_term t) (copy_formula a)
copy_formula (speaks_for t u) = speaks_for_copy (copy_term t) (copy_term u)
copy_formula (speaks_for_on t u s) = speaks_for_on_copy (copy_term t) (copy_term u) s

abbrev formula_of : FormulaCopy → FormulaTree
formula_of verum_copy = verum
formula_of falsum_copy = falsum
formula_of (atom_copy p ts) = atom p (map term_of ts)
formula_of (test_copy c t u) = test (compare_of c) (term_of t) (term_of u)
formula_of (and_copy a b) = and (formula_of a) (formula_of b)
formula_of (or_copy a b) = or (formula_of a) (formula_of b)
formula_of (implies_copy a b) = implies (formula_of a) (formula_of b)
formula_of (forall_copy x a) = forall x (formula_of a)
formula_of (exists_copy x a) = exists x (formula_of a)
formula_of (says_copy t a) = says (term_of t) (formula_of a)
formula_of (speaks_for_copy t u) = speaks_for (term_of t) (term_of u)
formula_of (speaks_for_on_copy t u s) = speaks_for_on (term_of t) (term_of u) s

formula_back : (f : FormulaTree) → formula_of (copy_formula f) ≡ f
formula_back verum = refl
formula_back falsum = refl
formula_back (atom p ts) = ap (λ us. atom p us) (terms_back ts)
formula_back (test c t u) =
    let e = compare_back c in
    let d = term_back t in
    let b = term_back u in
    cc (e, d, b)
formula_back (and a b) = ap₂ (λ x y. and x y) (formula_back a) (formula_back b)
formula_back (or a b) = ap₂ (λ x y. or x y) (formula_back a) (formula_back b)
formula_back (implies a b) = ap₂ (λ x y. implies x y) (formula_back a) (formula_back b)
formula_back (forall x a) = ap (λ y. forall x y) (formula_back a)
formula_back (exists x a) = ap (λ y. exists x y) (formula_back a)
formula_back (says t a) = ap₂ (λ x y. says x y) (term_back t) (formula_back a)
formula_back (speaks_for t u) = ap₂ (λ x y. speaks_for x y) (term_back t) (term_back u)
formula_back (speaks_for_on t u s) = ap₂ (λ x y. speaks_for_on x y s) (term_back t) (term_back u)

-- two formulas are the same, or they are not
pub same_formula : (a b : FormulaTree) → (a ≡ b) ⊎ (a ≡ b → ⊥)
same_formula a b =
    elim (formula_copies (copy_formula a) (copy_formula b)) [
      | yes e ↦ inl (sym (formula_back a) ∙ ap formula_of e ∙ formula_back b)
      | no n ↦ inr (λ e. n (ap copy_formula e))
    ]

-- two terms are the same, or they are not
pub same_term : (t u : TermTree) → (t ≡ u) ⊎ (t ≡ u → ⊥)
same_term t u =
    elim (term_copies (copy_term t) (copy_term u)) [
      | yes e ↦ inl (sym (term_back t) ∙ ap term_of e ∙ term_back u)
      | no n ↦ inr (λ e. n (ap copy_term e))
    ]
