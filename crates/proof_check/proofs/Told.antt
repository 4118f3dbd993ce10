-- What is wrong with a line of which a test failed.
use Rattle.std.proofs.Common.{◌≡◌, ◌⊎◌, ℕ, suc, ◌<◌, ◌≤◌, List, [], ◌∷◌, refl, inl, inr, ⊎_elim, arith}
use Rattle.std.specs.List.{Contains}
use Rattle.std.proofs.lemmas.List.Elements.{All-nil, All-cons}
use Rattle.std.proofs.lemmas.Bool.{cases_lt}
use Rattle.proof_check.specs.Inner.Sound.{AreEarlier}

bad_head : (k x : ℕ) (refs : List ℕ) → ((x ≡ 0) ⊎ (k ≤ x)) → (i : ℕ) × Contains (x ∷ refs) i × ((i ≡ 0) ⊎ (k ≤ i))
bad_head k x refs h = (x, (0, omega arith, refl), h)

bad_tail : (k x : ℕ) (refs : List ℕ) → (i : ℕ) × Contains refs i × ((i ≡ 0) ⊎ (k ≤ i)) → (i : ℕ) × Contains (x ∷ refs) i × ((i ≡ 0) ⊎ (k ≤ i))
bad_tail k x refs (i, (place, within, read), h) = (i, (suc place, omega arith, read), h)

-- where not each reference is to an earlier line, there is one that is not
pub bad_reference : (k : ℕ) (refs : List ℕ) → (AreEarlier k refs → ⊥) → (i : ℕ) × Contains refs i × ((i ≡ 0) ⊎ (k ≤ i))
bad_reference k [] h = absurd (h (All-nil (λ i. (0 < i) × (i < k))))
bad_reference k (x ∷ refs) h =
    ⊎_elim (λ (low : 0 < x). ⊎_elim (λ (high : x < k). bad_tail k x refs (bad_reference k refs (λ a. h (All-cons (λ i. (0 < i) × (i < k)) x refs (low, high) a)))) (λ (e : k ≤ x). bad_head k x refs (inr e)) (cases_lt x k)) (λ (e : x ≤ 0). bad_head k x refs (inl (omega arith))) (cases_lt 0 x)
