-- Labels at their places, and the steps that they allow.
use Rattle.std.proofs.Common.{◌≡◌, ◌<◌, ℕ, List, Some, length, map, refl, ◌∙◌, get_or}
use Rattle.std.specs.List.{slice_get}
use Rattle.std.proofs.lemmas.Option.{slice_get-map, slice_get_read}
use Rattle.nal_term.specs.declared.formulas.Formula.{Formula}
use Rattle.nal_term.specs.Trees.{TermTree, FormulaTree, formula_tree, says, speaks_for, speaks_for_on}
use Rattle.chain_prover.specs.Chains.{Step, delegation, restricted, part, IsStep}
use Rattle.chain_prover.specs.Inner.Paths.{Grants}
use Rattle.chain_prover.proofs.Places.{got_contained, contained_got}

-- the tree of what was read
pub label_at : (labels : List Formula) (i : ℕ) (x : Formula) → i < length labels → x ≡ get_or labels i x → slice_get (map formula_tree labels) i ≡ Some (formula_tree x)
label_at labels i x within read = slice_get-map formula_tree labels i ∙ rw (slice_get_read labels (length labels) i x refl within read) refl

-- a label that is held allows the step
pub step_by : (labels : List FormulaTree) (f label : FormulaTree) (i : ℕ) (x : TermTree) (s : Step) → slice_get labels i ≡ Some label → Grants f label x s → IsStep labels f x s
step_by labels f label i x (delegation y) at g = rw (← g) (got_contained labels i label at)
step_by labels f label i x (restricted y names) at g = (rw (← g.0) (got_contained labels i label at), g.1)
step_by labels f label i x (part n) at g = absurd g

-- and so does each step that is none to a subprincipal have its label
pub record HasLabel (labels : List FormulaTree) (f : FormulaTree) (x : TermTree) (s : Step) : Type 0 where
  pub place : ℕ
  pub label : FormulaTree
  pub at : slice_get labels place ≡ Some label
  pub grants : Grants f label x s

pub delegation_label : (labels : List FormulaTree) (f : FormulaTree) (x y : TermTree) → IsStep labels f x (delegation y) → HasLabel labels f x (delegation y)
delegation_label labels f x y c = let (i, at) = contained_got labels (says y (speaks_for x y)) c in record { place = i; label = says y (speaks_for x y); at = at; grants = refl }

pub restricted_label : (labels : List FormulaTree) (f : FormulaTree) (x y : TermTree) (names : List (List ℕ)) → IsStep labels f x (restricted y names) → HasLabel labels f x (restricted y names)
restricted_label labels f x y names c =
    let (i, at) = contained_got labels (says y (speaks_for_on x y names)) c.0 in record { place = i; label = says y (speaks_for_on x y names); at = at; grants = (refl, c.1) }
