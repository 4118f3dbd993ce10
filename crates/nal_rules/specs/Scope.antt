-- When a formula is within the scope of a restricted delegation.
use Rattle.std.specs.Prelude.{ℕ, List, Contains, ◌⊎◌}
use Rattle.nal_term.specs.Trees.{TermTree, name, FormulaTree, atom, test, and, or, implies}

-- the term is one of the names
abbrev pub IsNameOf : List (List ℕ) → TermTree → Type 0
IsNameOf s (name x) = Contains s x
IsNameOf s _ = ⊥

-- an atom whose predicate is a name of the scope, a comparison one of whose sides is, or a conjunction,
-- disjunction or implication of two formulas in the scope
abbrev pub IsInScope : List (List ℕ) → FormulaTree → Type 0
IsInScope s (atom p ts) = Contains s p
IsInScope s (test c t u) = IsNameOf s t ⊎ IsNameOf s u
IsInScope s (and a b) = IsInScope s a × IsInScope s b
IsInScope s (or a b) = IsInScope s a × IsInScope s b
IsInScope s (implies a b) = IsInScope s a × IsInScope s b
IsInScope s _ = ⊥
