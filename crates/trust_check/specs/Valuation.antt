-- The valuation by which trust is judged: which formulas can be taken as true where some principals may say anything.
use Rattle.std.specs.Prelude.{◌⊎◌, ℕ, List, All, Contains}
use Rattle.nal_term.specs.Trees.{TermTree, subprincipal, FormulaTree, verum, falsum, atom, test, and, or, implies, forall, exists, says, speaks_for, speaks_for_on}

-- what is assumed: the principals that are not trusted, the predicates on which nobody is relied, and the atoms that are
-- taken as true
pub record Assumptions : Type 0 where
  pub untrusted : List TermTree
  pub loose : List (List ℕ)
  pub facts : List FormulaTree

-- a principal is untrusted where it is listed, or where it is a subprincipal of one that is untrusted
pub data IsUntrusted (a : Assumptions) : TermTree → Type 0 where
  listed : {p : TermTree} → Contains a.untrusted p → IsUntrusted a p
  below : {p : TermTree} {n : List ℕ} → IsUntrusted a p → IsUntrusted a (subprincipal p n)

-- each of the names is loose
abbrev pub AreLoose : Assumptions → List (List ℕ) → Type 0
AreLoose a names = All (Contains a.loose) names

-- The formula is true under the assumptions. Each case can be decided, so that the connectives are those of classical logic.
abbrev pub Holds : Assumptions → FormulaTree → Type 0
-- `true` is true
Holds a verum = Unit {0}
-- `false` is not
Holds a falsum = ⊥
-- an atom is true where its predicate is loose, or it is one of the facts
Holds a (atom p ts) = Contains a.loose p ⊎ Contains a.facts (atom p ts)
-- each comparison is true
Holds a (test c t u) = Unit {0}
-- a conjunction is true where both parts are
Holds a (and f g) = Holds a f × Holds a g
-- a disjunction is true where a part is
Holds a (or f g) = Holds a f ⊎ Holds a g
-- an implication is true where its conclusion is, if its premise is
Holds a (implies f g) = Holds a f → Holds a g
-- each quantified formula is true
Holds a (forall x f) = Unit {0}
Holds a (exists x f) = Unit {0}
-- what an untrusted principal says is true, and what another says where it is so
Holds a (says p f) = IsUntrusted a p ⊎ Holds a f
-- a delegation is true where the one that it trusts is untrusted only if the one that it binds is
Holds a (speaks_for p q) = IsUntrusted a p → IsUntrusted a q
-- and one on some names also where each of these is loose
Holds a (speaks_for_on p q names) = IsUntrusted a p → IsUntrusted a q ⊎ AreLoose a names
