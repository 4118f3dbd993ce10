-- How large the formulas and terms of a proof are, and how many steps its check may take.
use Rattle.std.specs.Prelude.{ℕ, ◌+◌, ◌*◌, List, [], ◌∷◌, max, Option, None, Some}
use Rattle.nal_term.specs.Trees.{TermTree, FormulaTree}
use Rattle.nal_term.specs.Size.{node_count, term_node_count}
use Rattle.proof_lines.specs.Lines.{LineTree}

-- the nodes of a line's term, where it has one
abbrev pub bracket_size : Option TermTree → ℕ
bracket_size None = 0
bracket_size (Some t) = term_node_count t

-- the nodes of the greater of a line's formula and its term
abbrev pub line_size : LineTree → ℕ
line_size l = max (node_count l.formula) (bracket_size l.term)

-- the nodes of the greatest formula or term of the lines
abbrev pub greatest_in : List LineTree → ℕ
greatest_in [] = 0
greatest_in (l ∷ ls) = max (line_size l) (greatest_in ls)

-- the nodes of the greatest formula or term of a proof and a goal
abbrev pub greatest_size : List LineTree → FormulaTree → ℕ
greatest_size lines goal = max (node_count goal) (greatest_in lines)

-- the most steps for one of n lines, where no formula and no term has more than z nodes
abbrev pub line_steps : ℕ → ℕ → ℕ
line_steps n z = z * z + (n + 8) * z

-- the most steps for n such lines
abbrev pub proof_steps : ℕ → ℕ → ℕ
proof_steps n z = n * line_steps n z
