-- What a substitution makes of the part below a quantifier.
use Rattle.std.specs.Prelude.{ℕ, List, Option, Some, if◌then◌else◌}
use Rattle.std.specs.Str.{bytes_eq}
use Rattle.nal_subst.specs.Substitution.{under, formula_with}
use Rattle.nal_term.specs.Trees.{TermTree, FormulaTree}

-- the part below a quantifier over `?y`, with `t` in place of each `?x` that is free in the whole
abbrev pub part_with : List ℕ → TermTree → List ℕ → FormulaTree → Option FormulaTree
part_with x t y part = if bytes_eq x y then Some part else under x t y part (formula_with x t part)
