-- How large a term or a formula is: how many nodes its tree has. A node is a formula or a term; a name that a
-- quantifier binds, a subprincipal's name and the names of a scope are none.
use Rattle.std.specs.Prelude.{ℕ, ◌+◌, List, [], ◌∷◌}
use Rattle.nal_term.specs.Trees.{TermTree, number, name, text, variable, subprincipal, FormulaTree, verum, falsum, atom, test, and, or, implies, forall, exists, says, speaks_for, speaks_for_on}

-- the nodes of a term
abbrev pub term_node_count : TermTree → ℕ
term_node_count (number n) = 1
term_node_count (name x) = 1
term_node_count (text x) = 1
term_node_count (variable x) = 1
term_node_count (subprincipal t x) = 1 + term_node_count t

-- the nodes of a list of terms
abbrev pub term_list_node_count : List TermTree → ℕ
term_list_node_count [] = 0
term_list_node_count (t ∷ ts) = term_node_count t + term_list_node_count ts

-- the nodes of a formula
abbrev pub node_count : FormulaTree → ℕ
node_count verum = 1
node_count falsum = 1
node_count (atom p ts) = 1 + term_list_node_count ts
node_count (test c t u) = 1 + term_node_count t + term_node_count u
node_count (and a b) = 1 + node_count a + node_count b
node_count (or a b) = 1 + node_count a + node_count b
node_count (implies a b) = 1 + node_count a + node_count b
node_count (forall x a) = 1 + node_count a
node_count (exists x a) = 1 + node_count a
node_count (says t a) = 1 + term_node_count t + node_count a
node_count (speaks_for t u) = 1 + term_node_count t + term_node_count u
node_count (speaks_for_on t u s) = 1 + term_node_count t + term_node_count u
