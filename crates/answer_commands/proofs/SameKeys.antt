-- Keys of formulas: what a list of them holds, and what their texts tell.
use Rattle.std.proofs.lemmas.List.{length-map}
use Rattle.std.proofs.Common.{IsTrue, ◌↔◌, Contains, false, ◌∙◌, ◌≡◌, ◌<◌, ◌≤◌, ◌+◌, inl, inr, refl, sym, subst, arith, ℕ, zero, suc, List, [], ◌∷◌, length, slice_index_or}
use Rattle.std.proofs.Math.Logic.{∥∥₁_elim}
use mathlib.Core.HLevel.{⊥_prop}
use Rattle.nal_term.specs.Trees.{FormulaTree}
use Rattle.nal_parse.specs.Canonical.{IsSpellable, formula_levels, formula_text}
use Rattle.nal_parse.specs.Grammar.{SpellsFormula}
use Rattle.nal_parse.specs.Laws.{OneFormulaSpelled}
use Rattle.nal_parse.proofs.ForCallers.{formula_text_spells}
use Rattle.nal_rules.proofs.ForCallers.{same_formula}
use Rattle.answer_commands.specs.declared.keys.FormulaKey.{FormulaKey}
use Rattle.answer_commands.specs.Inner.Forms.{formula_trees, tree_of}

-- formulas with one canonical text are the same
pub text_tells : OneFormulaSpelled → (a b : FormulaTree) → ∥ IsSpellable a ∥₁ → ∥ IsSpellable b ∥₁ → formula_text a ≡ formula_text b → a ≡ b
text_tells one a b sa sb e = elim (same_formula a b) [
  | inl same ↦ same
  | inr other ↦ absurd (∥∥₁_elim sa ⊥_prop (λ sa. ∥∥₁_elim sb ⊥_prop (λ sb. other (spelled sa sb))))
]
  where
    n : ℕ
    n = formula_levels a + formula_levels b

    spelled : IsSpellable a → IsSpellable b → a ≡ b
    spelled sa sb =
        one n (formula_text a) a b (formula_text_spells a sa n (omega arith))
        (subst (λ text. SpellsFormula n text b) (sym e) (formula_text_spells b sb n (omega arith)))

-- a key that is of the formula of none of a list's is not of one among their formulas
pub not_among : (keys : List FormulaKey) (key : FormulaKey) (n : ℕ) → length keys ≤ n
    → ((k : ℕ) (d : FormulaKey) → k < n → tree_of (slice_index_or keys k d) ≡ tree_of key → ⊥) → IsTrue false ↔ Contains (formula_trees keys) (tree_of key)
not_among keys key n h inv = (
  (λ t. absurd (cc t)),
  λ c.
      let s = length-map keys tree_of in
      let short : c.0 < length keys = omega (arith, c.1, s) in
      absurd (inv c.0 key (omega (arith, short, h)) (get_tree keys c.0 key ∙ c.2)),
)
  where
    get_tree : (keys : List FormulaKey) (k : ℕ) (d : FormulaKey) → tree_of (slice_index_or keys k d) ≡ slice_index_or (formula_trees keys) k (tree_of d)
    get_tree [] k d = refl
    get_tree (key ∷ keys) zero d = refl
    get_tree (key ∷ keys) (suc k) d = get_tree keys k d
