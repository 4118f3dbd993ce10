-- The goals of the service, and the ports of its authorities, as two lists of rows.
use Rattle.std.specs.Prelude.{ℕ, List, Bool, ◌&&◌, Option, map, nat_eq}
use Rattle.std.specs.List.{position, find}
use Rattle.std.specs.Option.{option_map}
use Rattle.nal_term.specs.declared.terms.Term.{Term}
use Rattle.nal_term.specs.declared.formulas.Formula.{Formula}
use Rattle.nal_term.specs.Trees.{TermTree, FormulaTree, term_tree, formula_tree}
use Rattle.nal_term.specs.TreeKeys.{same_bytes, same_terms}

-- what a store holds: an operation, an object and the goal of the two; a principal and its port
abbrev pub HeldGoal : Type 0
HeldGoal = List ℕ × ℕ × Formula

abbrev pub HeldPort : Type 0
HeldPort = Term × ℕ

-- what contracts see of a store: what it holds, and how many more of each it has memory for
pub record Holdings : Type 0 where
  pub goals_held : List HeldGoal
  pub ports_held : List HeldPort
  pub spare : ℕ

-- a goal's row: the operation, the object and the goal
abbrev pub GoalRow : Type 0
GoalRow = List ℕ × ℕ × FormulaTree

-- a binding's row: the principal, and the port of its authority
abbrev pub PortRow : Type 0
PortRow = TermTree × ℕ

abbrev pub goal_row : HeldGoal → GoalRow
goal_row g = (g.0, g.1, formula_tree g.2)

abbrev pub port_row : HeldPort → PortRow
port_row b = (term_tree b.0, b.1)

-- the rows of the goals, and of the bindings
abbrev pub goals : Holdings → List GoalRow
goals h = map goal_row h.goals_held

abbrev pub ports : Holdings → List PortRow
ports h = map port_row h.ports_held

-- the row is the one of this operation and object
abbrev pub is_goal : List ℕ → ℕ → GoalRow → Bool
is_goal op object row = same_bytes op row.0 && nat_eq object row.1

-- the row is the one of this principal
abbrev pub is_port : TermTree → PortRow → Bool
is_port principal row = same_terms principal row.0

-- the place of a goal's row, from 0
abbrev pub goal_place : List GoalRow → List ℕ → ℕ → Option ℕ
goal_place rows op object = position (is_goal op object) rows

-- the place of a binding's row, from 0
abbrev pub port_place : List PortRow → TermTree → Option ℕ
port_place rows principal = position (is_port principal) rows

-- the goal of an operation on an object
abbrev pub goal_of : List GoalRow → List ℕ → ℕ → Option FormulaTree
goal_of rows op object = option_map (λ (row : GoalRow). row.2) (find (is_goal op object) rows)

-- the port of a principal
abbrev pub port_of : List PortRow → TermTree → Option ℕ
port_of rows principal = option_map (λ (row : PortRow). row.1) (find (is_port principal) rows)
