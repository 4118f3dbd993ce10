-- Whether each free variable of a term or a formula is one of a list of variables, as a test that goes down
-- the tree once and adds what a quantifier binds to the list.
use Rattle.std.specs.Prelude.{ℕ, List, [], ◌∷◌, Bool, true, ◌&&◌}
use Rattle.std.specs.List.{list_any}
use Rattle.std.specs.Str.{bytes_eq}
use Rattle.nal_term.specs.declared.free.Bound.{Bound}
use Rattle.nal_term.specs.declared.free.Bound.TheVariants.{Nothing, More'}
use Rattle.nal_term.specs.Trees.{TermTree, number, name, text, variable, subprincipal, FormulaTree, verum, falsum, atom, test, and, or, implies, forall, exists, says, speaks_for, speaks_for_on}

-- the variables of a list of bound variables, the innermost one first
abbrev pub bound_names : Bound → List (List ℕ)
bound_names Nothing = []
bound_names (More' first p rest) = first.now ∷ bound_names rest

-- the variable is one of these
abbrev pub is_among : List (List ℕ) → List ℕ → Bool
is_among xs x = list_any (λ y. bytes_eq x y) xs

-- each variable of the term is one of these
abbrev pub covers_term : List (List ℕ) → TermTree → Bool
covers_term xs (number n) = true
covers_term xs (name y) = true
covers_term xs (text y) = true
covers_term xs (variable y) = is_among xs y
covers_term xs (subprincipal t y) = covers_term xs t

-- each variable of the terms is one of these
abbrev pub covers_terms : List (List ℕ) → List TermTree → Bool
covers_terms xs [] = true
covers_terms xs (t ∷ ts) = covers_term xs t && covers_terms xs ts

-- each free variable of the formula is one of these
abbrev pub covers : List (List ℕ) → FormulaTree → Bool
covers xs verum = true
covers xs falsum = true
covers xs (atom p ts) = covers_terms xs ts
covers xs (test c t u) = covers_term xs t && covers_term xs u
covers xs (and a b) = covers xs a && covers xs b
covers xs (or a b) = covers xs a && covers xs b
covers xs (implies a b) = covers xs a && covers xs b
covers xs (forall y a) = covers (y ∷ xs) a
covers xs (exists y a) = covers (y ∷ xs) a
covers xs (says t a) = covers_term xs t && covers xs a
covers xs (speaks_for t u) = covers_term xs t && covers_term xs u
covers xs (speaks_for_on t u s) = covers_term xs t && covers_term xs u
