-- What the tests of the analysis tell.
use Rattle.std.proofs.Common.{◌≡◌, ◌↔◌, ◌⊎◌, inl, inr, ℕ, List, Bool, true, false, IsTrue, not, Contains}
use Rattle.nal_term.specs.Trees.{TermTree, subprincipal}
use Rattle.trust_check.specs.Valuation.{Assumptions, AreLoose, IsUntrusted, listed, below}

pub not_both : (v p : Bool) → v ≡ not p → p ≡ false → v ≡ false → ⊥
not_both v true e p f = absurd (cc p)
not_both v false e p f = absurd (cc (e, f))

module _ (a : Assumptions) where
  -- a subprincipal that is not listed is untrusted where the one above is
  pub subprincipal_told : (p : TermTree) (n : List ℕ) (here above : Bool) → here ≡ false → IsTrue here ↔ Contains a.untrusted (subprincipal p n) → IsTrue above ↔ IsUntrusted a p
      → IsTrue above ↔ IsUntrusted a (subprincipal p n)
  subprincipal_told p n here above e l u = (λ t. below (u.0 t), from)
    where
      from : IsUntrusted a (subprincipal p n) → IsTrue above
      from (listed c) = let t = l.1 c in absurd (cc (t, e))
      from (below v) = u.1 v

  -- a delegation from an untrusted principal to a trusted one is judged by its names
  pub names_told : (p q : TermTree) (names : List (List ℕ)) (r : Bool) → IsUntrusted a p → (IsUntrusted a q → ⊥) → IsTrue r ↔ AreLoose a names
      → IsTrue r ↔ (IsUntrusted a p → IsUntrusted a q ⊎ AreLoose a names)
  names_told p q names r untrusted trusted l = (λ t u. inr (l.0 t), λ h. l.1 (loose (h untrusted)))
    where
      loose : IsUntrusted a q ⊎ AreLoose a names → AreLoose a names
      loose (inl u) = absurd (trusted u)
      loose (inr all) = all
