-- Steps of the law: what a line derives from the lines to which it refers, whatever its rule.
use Rattle.std.proofs.Common.{◌≡◌, ℕ, ◌<◌, List, [], ◌∷◌, ◌++◌, Option, Some, None, refl, subst, arith}
use Rattle.std.specs.List.{Contains}
use Rattle.nal_term.specs.Trees.{TermTree, FormulaTree}
use Rattle.proof_lines.specs.Lines.{LineTree}
use Rattle.nal_rules.specs.Derivation.{Derivation}
use Rattle.nal_rules.specs.Faults.{formula_at}
use Rattle.proof_check.proofs.Rested.{AreRested, rested_append}

-- the formula of line k is derived from hypotheses on which the line rests
abbrev pub IsSupported : List LineTree → List FormulaTree → List FormulaTree → ℕ → FormulaTree → Type 0
IsSupported lines labels answers k f = (xs : List FormulaTree) × Derivation labels answers xs f × AreRested lines k None xs

-- the reference is to an earlier line of this formula, which is so derived
abbrev pub IsPremise : List LineTree → List FormulaTree → List FormulaTree → ℕ → ℕ → FormulaTree → Type 0
IsPremise lines labels answers k i f = (i < k) × (formula_at lines i ≡ Some f) × IsSupported lines labels answers i f

-- the references are to such lines
abbrev pub ArePremises : List LineTree → List FormulaTree → List FormulaTree → ℕ → List ℕ → List FormulaTree → Type 0
ArePremises lines labels answers k [] [] = Unit {0}
ArePremises lines labels answers k (i ∷ refs) (f ∷ fs) = IsPremise lines labels answers k i f × ArePremises lines labels answers k refs fs
ArePremises lines labels answers k [] (f ∷ fs) = ⊥
ArePremises lines labels answers k (i ∷ refs) [] = ⊥

-- line k rests on what it reaches through these supports
abbrev pub Carries : List LineTree → ℕ → List (ℕ × Option ℕ) → Type 0
Carries lines k supports = (j : ℕ) (discharged : Option ℕ) → Contains supports (j, discharged) → j < k → (xs : List FormulaTree) → AreRested lines j discharged xs → AreRested lines k None xs

pub at_first : {A : Type 0} (x : A) (xs : List A) → Contains (x ∷ xs) x
at_first x xs = (0, omega arith, refl)

pub at_second : {A : Type 0} (x y : A) (xs : List A) → Contains (x ∷ y ∷ xs) y
at_second x y xs = (1, omega arith, refl)

pub at_third : {A : Type 0} (x y z : A) (xs : List A) → Contains (x ∷ y ∷ z ∷ xs) z
at_third x y z xs = (2, omega arith, refl)

module _ (lines : List LineTree) (labels answers : List FormulaTree) (k : ℕ) where
  pub same_derived : (xs : List FormulaTree) (f g : FormulaTree) → f ≡ g → Derivation labels answers xs f → Derivation labels answers xs g
  same_derived xs f g e d = subst (λ x. Derivation labels answers xs x) e d

  -- a line of a rule that has no reference
  pub none_line : (H : List FormulaTree → Option TermTree → Type 0) (C : Type 0) → ((f : FormulaTree) (fs : List FormulaTree) (t : Option TermTree) → H (f ∷ fs) t → ⊥) → ((t : TermTree) → H [] (Some t) → ⊥)
      → (premises : List FormulaTree) (t : Option TermTree) → H premises t → (H [] None → C) → C
  none_line H C more term [] None h c = c h
  none_line H C more term [] (Some t) h c = absurd (term t h)
  none_line H C more term (f ∷ fs) t h c = absurd (more f fs t h)

  -- a line of a rule that has one
  pub one_line : (H : List FormulaTree → Option TermTree → Type 0) (R : List ℕ → Type 0) (C : Type 0) → ((t : Option TermTree) → H [] t → ⊥) → ((f g : FormulaTree) (fs : List FormulaTree) (t : Option TermTree) → H (f ∷ g ∷ fs) t → ⊥)
      → (refs : List ℕ) (premises : List FormulaTree) (t : Option TermTree) → ArePremises lines labels answers k refs premises → H premises t → R refs → ((i : ℕ) (f : FormulaTree) → H (f ∷ []) t → R (i ∷ []) → IsPremise lines labels answers k i f → C) → C
  one_line H R C none more refs [] t a h r c = absurd (none t h)
  one_line H R C none more refs (f ∷ g ∷ fs) t a h r c = absurd (more f g fs t h)
  one_line H R C none more [] (f ∷ []) t a h r c = absurd a
  one_line H R C none more (i ∷ j ∷ refs) (f ∷ []) t a h r c = absurd a.1
  one_line H R C none more (i ∷ []) (f ∷ []) t a h r c = c i f h r a.0

  -- a line of a rule that has two
  pub two_line : (H : List FormulaTree → Option TermTree → Type 0) (R : List ℕ → Type 0) (C : Type 0) → ((t : Option TermTree) → H [] t → ⊥) → ((f : FormulaTree) (t : Option TermTree) → H (f ∷ []) t → ⊥)
      → ((f g x : FormulaTree) (fs : List FormulaTree) (t : Option TermTree) → H (f ∷ g ∷ x ∷ fs) t → ⊥)
      → (refs : List ℕ) (premises : List FormulaTree) (t : Option TermTree) → ArePremises lines labels answers k refs premises → H premises t → R refs
      → ((i j : ℕ) (f g : FormulaTree) → H (f ∷ g ∷ []) t → R (i ∷ j ∷ []) → IsPremise lines labels answers k i f → IsPremise lines labels answers k j g → C) → C
  two_line H R C none one more refs [] t a h r c = absurd (none t h)
  two_line H R C none one more refs (f ∷ []) t a h r c = absurd (one f t h)
  two_line H R C none one more refs (f ∷ g ∷ x ∷ fs) t a h r c = absurd (more f g x fs t h)
  two_line H R C none one more [] (f ∷ g ∷ []) t a h r c = absurd a
  two_line H R C none one more (i ∷ []) (f ∷ g ∷ []) t a h r c = absurd a.1
  two_line H R C none one more (i ∷ j ∷ n ∷ refs) (f ∷ g ∷ []) t a h r c = absurd a.1.1
  two_line H R C none one more (i ∷ j ∷ []) (f ∷ g ∷ []) t a h r c = c i j f g h r a.0 a.1.0

  pub none_step : (c : FormulaTree) → Derivation labels answers [] c → IsSupported lines labels answers k c
  none_step c d = ([], d, tt)

  pub one_step : (i : ℕ) (f c : FormulaTree) → Carries lines k ((i, None) ∷ []) → IsPremise lines labels answers k i f → ((xs : List FormulaTree) → Derivation labels answers xs f → Derivation labels answers xs c) → IsSupported lines labels answers k c
  one_step i f c carries (earlier, reads, (xs, d, rested)) derive =
      (xs, derive xs d, carries i None (at_first (i, None) []) earlier xs rested)

  pub two_step : (i j : ℕ) (f g c : FormulaTree) → Carries lines k ((i, None) ∷ (j, None) ∷ []) → IsPremise lines labels answers k i f → IsPremise lines labels answers k j g
      → ((xs ys : List FormulaTree) → Derivation labels answers xs f → Derivation labels answers ys g → Derivation labels answers (xs ++ ys) c) → IsSupported lines labels answers k c
  two_step i j f g c carries (earlier, reads, (xs, d, rested)) (earlier', reads', (ys, e, rested')) derive =
      (xs ++ ys, derive xs ys d e, rested_append lines k None xs ys (carries i None (at_first (i, None) ((j, None) ∷ [])) earlier xs rested) (carries j None (at_second (i, None) (j, None) []) earlier' ys rested'))
