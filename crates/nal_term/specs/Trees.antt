-- Terms and formulas as plain trees. A Rust value has boxes and vectors, and so pointers and capacities:
-- two equal formulas may differ in these. Every statement is therefore about the tree of a value, and
-- these functions give it.
use Rattle.std.specs.Prelude.{ℕ, List, map}
use Rattle.nal_term.specs.declared.terms.Term.{Term}
use Rattle.nal_term.specs.declared.terms.Term.TheVariants.{Number, Name, Text, Var, Sub'}
use Rattle.nal_term.specs.declared.formulas.Compare.{Compare}
use Rattle.nal_term.specs.declared.formulas.Formula.{Formula}
use Rattle.nal_term.specs.declared.formulas.Formula.TheVariants.{True, False, Atom, Test, And', Or', Implies', Forall', Exists', Says', SpeaksFor, SpeaksForOn}

-- a term: a number, a name, a quoted text, a variable, or the part of a term with a name of its own
pub data TermTree : Type 0 where
  number : ℕ → TermTree
  name : List ℕ → TermTree
  text : List ℕ → TermTree
  variable : List ℕ → TermTree
  subprincipal : TermTree → List ℕ → TermTree

-- a formula; the names that are bound stand with the quantifiers, and a scope is its list of names
pub data FormulaTree : Type 0 where
  verum : FormulaTree
  falsum : FormulaTree
  atom : List ℕ → List TermTree → FormulaTree
  test : Compare → TermTree → TermTree → FormulaTree
  and : FormulaTree → FormulaTree → FormulaTree
  or : FormulaTree → FormulaTree → FormulaTree
  implies : FormulaTree → FormulaTree → FormulaTree
  forall : List ℕ → FormulaTree → FormulaTree
  exists : List ℕ → FormulaTree → FormulaTree
  says : TermTree → FormulaTree → FormulaTree
  speaks_for : TermTree → TermTree → FormulaTree
  speaks_for_on : TermTree → TermTree → List (List ℕ) → FormulaTree

-- the tree of a term
abbrev pub term_tree : Term → TermTree
term_tree (Number n) = number n
term_tree (Name x) = name x
term_tree (Text x) = text x
term_tree (Var x) = variable x
term_tree (Sub' p t x) = subprincipal (term_tree t) x

-- the trees of a list of terms
abbrev pub term_trees : List Term → List TermTree
term_trees ts = map term_tree ts

-- the tree of a formula
abbrev pub formula_tree : Formula → FormulaTree
formula_tree True = verum
formula_tree False = falsum
formula_tree (Atom p ts) = atom p (term_trees ts)
formula_tree (Test c t u) = test c (term_tree t) (term_tree u)
formula_tree (And' p a q b) = and (formula_tree a) (formula_tree b)
formula_tree (Or' p a q b) = or (formula_tree a) (formula_tree b)
formula_tree (Implies' p a q b) = implies (formula_tree a) (formula_tree b)
formula_tree (Forall' x p a) = forall x (formula_tree a)
formula_tree (Exists' x p a) = exists x (formula_tree a)
formula_tree (Says' t p a) = says (term_tree t) (formula_tree a)
formula_tree (SpeaksFor t u) = speaks_for (term_tree t) (term_tree u)
formula_tree (SpeaksForOn t u s) = speaks_for_on (term_tree t) (term_tree u) s
