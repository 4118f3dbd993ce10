-- The laws of substitution.
use Rattle.std.specs.Prelude.{◌≡◌, ◌≢◌, ◌↔◌, ◌⊎◌, ℕ, List, Some, None, IsTrue}
use Rattle.nal_term.specs.Trees.{TermTree, FormulaTree}
use Rattle.nal_term.specs.Free.{occurs_in, is_free_in}
use Rattle.nal_subst.specs.Places.{StandsFree, IsCaptured}
use Rattle.nal_subst.specs.Substitution.{formula_with}

-- a variable is free in a formula exactly where it stands free at some place
abbrev pub FreeByPlaces : Type 0
FreeByPlaces = (x : List ℕ) (f : FormulaTree) → IsTrue (is_free_in x f) ↔ StandsFree x f

-- a substitution is undefined exactly where at some place a variable of the term would be captured
abbrev pub UndefinedByPlaces : Type 0
UndefinedByPlaces = (x : List ℕ) (t : TermTree) (f : FormulaTree) → (formula_with x t f ≡ None) ↔ IsCaptured x t f

-- the free variables of what a substitution gives: those that were free, but the one that is replaced, and, where that
-- one was free, those of the term
abbrev pub FreeAfter : Type 0
FreeAfter =
    (x : List ℕ) (t : TermTree) (f g : FormulaTree) (z : List ℕ) → formula_with x t f ≡ Some g
    → IsTrue (is_free_in z g) ↔ (((z ≢ x) × IsTrue (is_free_in z f)) ⊎ (IsTrue (is_free_in x f) × IsTrue (occurs_in z t)))
