-- A formula can be taken out of any list of formulas.
use Rattle.std.proofs.Common.{◌≡◌, List, [], ◌∷◌, sym, subst, ⊎_elim}
use Rattle.nal_term.specs.Trees.{FormulaTree}
use Rattle.nal_rules.specs.Derivation.{TakesOut, nothing, takes, leaves}
use Rattle.nal_rules.proofs.Same.{same_formula}

-- what is left where every `a` is taken out
pub takes_out : (a : FormulaTree) (xs : List FormulaTree) → (ys : List FormulaTree) × TakesOut a xs ys
takes_out a [] = ([], nothing)
takes_out a (x ∷ xs) =
    let w : (ys : List FormulaTree) × TakesOut a xs ys = takes_out a xs in
    ⊎_elim (λ (e : x ≡ a). subst (λ y. (ys : List FormulaTree) × TakesOut a (y ∷ xs) ys) (sym e) (w.0, takes w.1)) (λ (n : x ≡ a → ⊥). (x ∷ w.0, leaves n w.1)) (same_formula x a)
