-- Substitution of a term for a variable, undefined where a variable of the term would be captured.
use Rattle.std.specs.Prelude.{ℕ, List, map, if◌then◌else◌, Option, Some, None, option_map}
use Rattle.std.specs.Option.{option_and_then}
use Rattle.std.specs.Str.{bytes_eq}
use Rattle.nal_term.specs.Trees.{TermTree, number, name, text, variable, subprincipal, FormulaTree, verum, falsum, atom, test, and, or, implies, forall, exists, says, speaks_for, speaks_for_on}
use Rattle.nal_term.specs.Free.{occurs_in, is_free_in}

-- the term with `t` in place of each `?x`
abbrev pub term_with : List ℕ → TermTree → TermTree → TermTree
term_with x t (number n) = number n
term_with x t (name y) = name y
term_with x t (text y) = text y
term_with x t (variable y) = if bytes_eq x y then t else variable y
term_with x t (subprincipal u y) = subprincipal (term_with x t u) y

-- a formula made of two parts, where both are defined
abbrev pub both : (FormulaTree → FormulaTree → FormulaTree) → Option FormulaTree → Option FormulaTree → Option FormulaTree
both make a b = option_and_then (λ f. option_map (λ g. make f g) b) a

-- under a quantifier over `?y`: a part in which `?x` is not free stays, and else `?y` must not occur in `t`
abbrev pub under : List ℕ → TermTree → List ℕ → FormulaTree → Option FormulaTree → Option FormulaTree
under x t y part replaced =
    if is_free_in x part then (if occurs_in y t then None else replaced) else Some part

-- the formula with `t` in place of each free `?x`; None where a free `?x` stands within a quantifier over
-- another variable that occurs in `t`
abbrev pub formula_with : List ℕ → TermTree → FormulaTree → Option FormulaTree
formula_with x t verum = Some verum
formula_with x t falsum = Some falsum
formula_with x t (atom p ts) = Some (atom p (map (λ u. term_with x t u) ts))
formula_with x t (test c u v) = Some (test c (term_with x t u) (term_with x t v))
formula_with x t (and a b) = both and (formula_with x t a) (formula_with x t b)
formula_with x t (or a b) = both or (formula_with x t a) (formula_with x t b)
formula_with x t (implies a b) = both implies (formula_with x t a) (formula_with x t b)
formula_with x t (forall y a) = if bytes_eq x y then Some (forall y a) else option_map (λ g. forall y g) (under x t y a (formula_with x t a))
formula_with x t (exists y a) = if bytes_eq x y then Some (exists y a) else option_map (λ g. exists y g) (under x t y a (formula_with x t a))
formula_with x t (says u a) = option_map (λ g. says (term_with x t u) g) (formula_with x t a)
formula_with x t (speaks_for u v) = Some (speaks_for (term_with x t u) (term_with x t v))
formula_with x t (speaks_for_on u v s) = Some (speaks_for_on (term_with x t u) (term_with x t v) s)
