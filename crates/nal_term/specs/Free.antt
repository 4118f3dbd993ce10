-- Which variables a term or a formula has free. A variable is written with its name, without the `?`.
use Rattle.std.specs.Prelude.{◌≡◌, ℕ, List, [], ◌∷◌, Bool, false, not, ◌&&◌, ◌||◌}
use Rattle.std.specs.Str.{bytes_eq}
use Rattle.nal_term.specs.Trees.{TermTree, number, name, text, variable, subprincipal, FormulaTree, verum, falsum, atom, test, and, or, implies, forall, exists, says, speaks_for, speaks_for_on}

-- the variable occurs in the term
abbrev pub occurs_in : List ℕ → TermTree → Bool
occurs_in x (number n) = false
occurs_in x (name y) = false
occurs_in x (text y) = false
occurs_in x (variable y) = bytes_eq x y
occurs_in x (subprincipal t y) = occurs_in x t

-- the variable occurs in one of the terms
abbrev pub occurs_in_some : List ℕ → List TermTree → Bool
occurs_in_some x [] = false
occurs_in_some x (t ∷ ts) = occurs_in x t || occurs_in_some x ts

-- the variable occurs in the formula outside a quantifier over it
abbrev pub is_free_in : List ℕ → FormulaTree → Bool
is_free_in x verum = false
is_free_in x falsum = false
is_free_in x (atom p ts) = occurs_in_some x ts
is_free_in x (test c t u) = occurs_in x t || occurs_in x u
is_free_in x (and a b) = is_free_in x a || is_free_in x b
is_free_in x (or a b) = is_free_in x a || is_free_in x b
is_free_in x (implies a b) = is_free_in x a || is_free_in x b
is_free_in x (forall y a) = not (bytes_eq x y) && is_free_in x a
is_free_in x (exists y a) = not (bytes_eq x y) && is_free_in x a
is_free_in x (says t a) = occurs_in x t || is_free_in x a
is_free_in x (speaks_for t u) = occurs_in x t || occurs_in x u
is_free_in x (speaks_for_on t u s) = occurs_in x t || occurs_in x u

-- no variable occurs in the term
abbrev pub IsClosedTerm : TermTree → Type 0
IsClosedTerm t = (x : List ℕ) → occurs_in x t ≡ false

-- no variable is free in the formula
abbrev pub IsClosed : FormulaTree → Type 0
IsClosed f = (x : List ℕ) → is_free_in x f ≡ false

-- no variable but this one is free in the formula
abbrev pub IsClosedBut : List ℕ → FormulaTree → Type 0
IsClosedBut y f = (x : List ℕ) → bytes_eq x y ≡ false → is_free_in x f ≡ false
