-- Lemmas for the proofs of other crates: whether a formula is one of a list's, the lowest line of which a fact holds,
-- and that a case has one verdict.
use Rattle.std.proofs.Common.{◌≡◌, ◌<◌, ◌⊎◌, inl, inr, ℕ, zero, suc, List, [], ◌∷◌, arith}
use Rattle.std.specs.List.{Contains}
use Rattle.nal_term.specs.Trees.{FormulaTree}
use Rattle.nal_rules.proofs.OneVerdict as verdicts
-- whether two trees are the same, a formula that was taken out of a set, and derivations from more
pub use Rattle.nal_rules.proofs.Same.{same_formula, same_term}
pub use Rattle.nal_rules.proofs.Discharge.{takes_out}
pub use Rattle.nal_rules.proofs.Weakened.{weakened}
use Rattle.nal_rules.specs.Laws.{OneVerdict}
use Rattle.nal_rules.specs.Verdicts.{IsLowest}

-- whether a formula is one of a list's is decided
pub in_or_out : (fs : List FormulaTree) (f : FormulaTree) → Contains fs f ⊎ (Contains fs f → ⊥)
in_or_out [] f = inr (λ c. absurd (omega (arith, c.1)))
in_or_out (g ∷ gs) f = of (same_formula g f) (in_or_out gs f)
  where
    of : (g ≡ f) ⊎ (g ≡ f → ⊥) → Contains gs f ⊎ (Contains gs f → ⊥) → Contains (g ∷ gs) f ⊎ (Contains (g ∷ gs) f → ⊥)
    of (inl same) later = inl (0, omega arith, same)
    of (inr other) (inl (i, within, read)) = inl (suc i, omega (arith, within), read)
    of (inr other) (inr out) = inr either
      where
        either : Contains (g ∷ gs) f → ⊥
        either (zero, within, read) = other read
        either (suc i, within, read) = out (i, omega (arith, within), read)

-- what is not outside of a list is in it
pub not_out : (fs : List FormulaTree) (f : FormulaTree) → ((Contains fs f → ⊥) → ⊥) → Contains fs f
not_out fs f n = of (in_or_out fs f)
  where
    of : Contains fs f ⊎ (Contains fs f → ⊥) → Contains fs f
    of (inl there) = there
    of (inr out) = absurd (n out)

module _ (Fact : ℕ → Type 0) where
  none_below : ((k : ℕ) → IsLowest Fact k → ⊥) → (n k : ℕ) → k < n → Fact k → ⊥
  none_below never zero k below fact = absurd (omega (arith, below))
  none_below never (suc n) k below fact = never k (fact, λ j lower there. none_below never n j (omega (arith, below, lower)) there)

  -- where none is the lowest, there is none at all
  pub none_at_all : ((k : ℕ) → IsLowest Fact k → ⊥) → (k : ℕ) → Fact k → ⊥
  none_at_all never k fact = none_below never (suc k) k (omega arith) fact

-- a case has one verdict
pub one_verdict : OneVerdict
one_verdict = verdicts.one_verdict
