-- The first label that is false.
use Rattle.std.proofs.Common.{◌≡◌, ◌+◌, ◌<◌, ℕ, List, length, map, Some, slice_index_or, refl, sym, subst, ◌∙◌, arith}
use Rattle.std.specs.List.{slice_get}
use Rattle.std.proofs.lemmas.List.{get_or-map, length-map}
use Rattle.std.proofs.lemmas.Option.{slice_get-map, slice_get_within, get_or_from_slice_get}
use Rattle.nal_term.specs.declared.formulas.Formula.{Formula}
use Rattle.nal_term.specs.Trees.{FormulaTree, formula_tree}
use Rattle.nal_rules.specs.Verdicts.{IsLowest}
use Rattle.trust_check.specs.Reach.{IsFalseLabel}
use Rattle.trust_check.specs.Valuation.{Assumptions, Holds}

module _ (a : Assumptions) (labels : List Formula) where
  -- the labels before a place are true
  abbrev pub AreTrueBefore : ℕ → Type 0
  AreTrueBefore i = (k : ℕ) (d : Formula) → k < i → Holds a (formula_tree (slice_index_or labels k d))

  label_is : (k : ℕ) (x : Formula) (f : FormulaTree) → slice_get (map formula_tree labels) k ≡ Some f → formula_tree (slice_index_or labels k x) ≡ f
  label_is k x f e =
      let within = slice_get_within (map formula_tree labels) k f e in
      let short : k < length labels = omega (arith, within, length-map labels formula_tree) in
      sym (get_or-map formula_tree labels k x f short) ∙ get_or_from_slice_get (map formula_tree labels) k f f e

  -- a label that is false, where all before it are true, is the lowest
  pub lowest : (i : ℕ) (x : Formula) → slice_get labels i ≡ Some x → (Holds a (formula_tree x) → ⊥) → AreTrueBefore i → IsLowest (IsFalseLabel a (map formula_tree labels)) (i + 1)
  lowest i x e false_label before = (
    (i, formula_tree x, refl, slice_get-map formula_tree labels i ∙ rw e refl, false_label),
    λ j less w. w.4 (subst (Holds a) (label_is w.0 x w.1 w.3) (before w.0 x (omega (arith, less, w.2)))),
  )
