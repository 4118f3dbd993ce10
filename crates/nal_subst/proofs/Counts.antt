-- Each node of a formula has room for a look at it and at each node of the term.
use Rattle.std.proofs.Common.{◌≡◌, ℕ, ◌+◌, ◌*◌, ◌≤◌, arith}
use Rattle.nal_term.specs.Size.{node_count, term_node_count}
use Rattle.nal_term.specs.Trees.{TermTree, number, name, text, variable, subprincipal, FormulaTree, verum, falsum, atom, test, and, or, implies, forall, exists, says, speaks_for, speaks_for_on}

term_some : (t : TermTree) → 1 ≤ term_node_count t
term_some (number n) = omega arith
term_some (name y) = omega arith
term_some (text y) = omega arith
term_some (variable y) = omega arith
term_some (subprincipal t y) = omega arith

formula_some : (f : FormulaTree) → 1 ≤ node_count f
formula_some verum = omega arith
formula_some falsum = omega arith
formula_some (atom p ts) = omega arith
formula_some (test c u v) = omega arith
formula_some (and a b) = omega arith
formula_some (or a b) = omega arith
formula_some (implies a b) = omega arith
formula_some (forall y a) = omega arith
formula_some (exists y a) = omega arith
formula_some (says u a) = omega arith
formula_some (speaks_for u v) = omega arith
formula_some (speaks_for_on u v s) = omega arith

twice : (n k : ℕ) → 1 ≤ k → n + n ≤ n * (1 + k)
twice n k h = grind arith

pub room : (f : FormulaTree) (t : TermTree) → (1 ≤ node_count f) × (node_count f + node_count f ≤ node_count f * (1 + term_node_count t)) × (1 ≤ term_node_count t)
room f t = (formula_some f, twice (node_count f) (term_node_count t) (term_some t), term_some t)

-- the room of a node and of its parts
pub one_part : (n k : ℕ) → (1 + n) * (1 + k) ≡ 1 + k + n * (1 + k)
one_part n k = grind arith

pub two_parts : (n m k : ℕ) → (1 + n + m) * (1 + k) ≡ 1 + k + n * (1 + k) + m * (1 + k)
two_parts n m k = grind arith
