-- Where a variable stands in a formula, and which quantifiers it stands within.
use Rattle.std.specs.Prelude.{◌≢◌, ◌⊎◌, ℕ, List, [], ◌∷◌, IsTrue}
use Rattle.std.specs.List.{All, Contains}
use Rattle.nal_term.specs.declared.formulas.Compare.{Compare}
use Rattle.nal_term.specs.Trees.{TermTree, FormulaTree}
use Rattle.nal_term.specs.Trees as tree
use Rattle.nal_term.specs.Free.{occurs_in, occurs_in_some}

-- the variable occurs in the one term or in the other
abbrev pub OccursInEither : List ℕ → TermTree → TermTree → Type 0
OccursInEither x t u = IsTrue (occurs_in x t) ⊎ IsTrue (occurs_in x u)

-- `StandsWithin x f ys`: at some place of `f` stands `?x`, and the quantifiers around this place are over `ys`, the
-- outermost first
pub data StandsWithin (x : List ℕ) : FormulaTree → List (List ℕ) → Type 0 where
  argument : {p : List ℕ} {ts : List TermTree} → IsTrue (occurs_in_some x ts) → StandsWithin x (tree.atom p ts) []
  side : {c : Compare} {t u : TermTree} → OccursInEither x t u → StandsWithin x (tree.test c t u) []
  delegate : {t u : TermTree} → OccursInEither x t u → StandsWithin x (tree.speaks_for t u) []
  delegate_on : {t u : TermTree} {s : List (List ℕ)} → OccursInEither x t u → StandsWithin x (tree.speaks_for_on t u s) []
  speaker : {t : TermTree} {a : FormulaTree} → IsTrue (occurs_in x t) → StandsWithin x (tree.says t a) []
  said : {t : TermTree} {a : FormulaTree} {ys : List (List ℕ)} → StandsWithin x a ys → StandsWithin x (tree.says t a) ys
  and_left : {a b : FormulaTree} {ys : List (List ℕ)} → StandsWithin x a ys → StandsWithin x (tree.and a b) ys
  and_right : {a b : FormulaTree} {ys : List (List ℕ)} → StandsWithin x b ys → StandsWithin x (tree.and a b) ys
  or_left : {a b : FormulaTree} {ys : List (List ℕ)} → StandsWithin x a ys → StandsWithin x (tree.or a b) ys
  or_right : {a b : FormulaTree} {ys : List (List ℕ)} → StandsWithin x b ys → StandsWithin x (tree.or a b) ys
  condition : {a b : FormulaTree} {ys : List (List ℕ)} → StandsWithin x a ys → StandsWithin x (tree.implies a b) ys
  conclusion : {a b : FormulaTree} {ys : List (List ℕ)} → StandsWithin x b ys → StandsWithin x (tree.implies a b) ys
  for_all : {y : List ℕ} {a : FormulaTree} {ys : List (List ℕ)} → StandsWithin x a ys → StandsWithin x (tree.forall y a) (y ∷ ys)
  for_some : {y : List ℕ} {a : FormulaTree} {ys : List (List ℕ)} → StandsWithin x a ys → StandsWithin x (tree.exists y a) (y ∷ ys)

-- at some place stands a free `?x`: no quantifier around it is over `?x`
abbrev pub StandsFree : List ℕ → FormulaTree → Type 0
StandsFree x f = (ys : List (List ℕ)) × StandsWithin x f ys × All (λ y. x ≢ y) ys

-- at some place stands a free `?x` within a quantifier over a variable that occurs in `t`
abbrev pub IsCaptured : List ℕ → TermTree → FormulaTree → Type 0
IsCaptured x t f =
    (ys : List (List ℕ)) × StandsWithin x f ys × All (λ y. x ≢ y) ys × (y : List ℕ) × Contains ys y × IsTrue (occurs_in y t)
