-- What stands at the places of a list, and of one with one more at its end.
use Rattle.std.proofs.Common.{◌≡◌, ◌<◌, ◌≤◌, ◌+◌, ◌⊎◌, inl, inr, ℕ, zero, suc, List, [], ◌∷◌, ◌++◌, length, set, Bool, true, false, Some, refl, ap, subst, arith, add-one}
use Rattle.std.specs.List.{find, slice_get}
use Rattle.std.proofs.lemmas.Option.{slice_get_within}
use Rattle.policy_history.specs.Events.{EntryTree}
use Rattle.label_holdings.specs.Entries.{entry_at}

pub some_same : {A : Type 0} {x y : A} → Some x ≡ Some y → x ≡ y
some_same e = cc

module _ {R : Type 0} where
  pub place_more : (xs : List R) (k : ℕ) (x y : R) → slice_get xs k ≡ Some y → slice_get (xs ++ x ∷ []) k ≡ Some y
  place_more [] k x y at = absurd (cc at)
  place_more (z ∷ xs) zero x y at = at
  place_more (z ∷ xs) (suc k) x y at = place_more xs k x y at

  pub place_last : (xs : List R) (x : R) → slice_get (xs ++ x ∷ []) (length xs) ≡ Some x
  place_last [] x = refl
  place_last (z ∷ xs) x = place_last xs x

  pub place_cases : (xs : List R) (k : ℕ) (x y : R) → slice_get (xs ++ x ∷ []) k ≡ Some y → (slice_get xs k ≡ Some y) ⊎ ((k ≡ length xs) × (x ≡ y))
  place_cases [] zero x y at = inr (refl, cc at)
  place_cases [] (suc k) x y at = absurd (cc at)
  place_cases (z ∷ xs) zero x y at = inl at
  place_cases (z ∷ xs) (suc k) x y at = of (place_cases xs k x y at)
    where
      of : (slice_get xs k ≡ Some y) ⊎ ((k ≡ length xs) × (x ≡ y)) → (slice_get xs k ≡ Some y) ⊎ ((suc k ≡ suc (length xs)) × (x ≡ y))
      of (inl here) = inl here
      of (inr (last, same)) = inr (ap suc last, same)

  -- what stands at a place after a write
  pub place_set : (xs : List R) (n k : ℕ) (x y : R) → slice_get (set xs n x) k ≡ Some y → ((k ≡ n) × (x ≡ y)) ⊎ ((k ≡ n → ⊥) × (slice_get xs k ≡ Some y))
  place_set [] n k x y at = absurd (cc at)
  place_set (z ∷ xs) zero zero x y at = inl (refl, cc at)
  place_set (z ∷ xs) zero (suc k) x y at = inr ((λ e. absurd (omega arith)), at)
  place_set (z ∷ xs) (suc n) zero x y at = inr ((λ e. absurd (omega arith)), at)
  place_set (z ∷ xs) (suc n) (suc k) x y at = of (place_set xs n k x y at)
    where
      of : ((k ≡ n) × (x ≡ y)) ⊎ ((k ≡ n → ⊥) × (slice_get xs k ≡ Some y)) → ((suc k ≡ suc n) × (x ≡ y)) ⊎ ((suc k ≡ suc n → ⊥) × (slice_get xs k ≡ Some y))
      of (inl (here, same)) = inl (ap suc here, same)
      of (inr (other, there)) = inr ((λ e. other (omega (arith, e))), there)

  pub there_is : (xs : List R) (k : ℕ) → k < length xs → (x : R) × (slice_get xs k ≡ Some x)
  there_is [] k within = absurd (omega (arith, within))
  there_is (x ∷ xs) zero within = (x, refl)
  there_is (x ∷ xs) (suc k) within = there_is xs k (omega (arith, within))

  -- what is found stands somewhere, and passes
  pub found_at : (p : R → Bool) (xs : List R) (x : R) → find p xs ≡ Some x → (k : ℕ) × (slice_get xs k ≡ Some x) × (p x ≡ true)
  found_at p [] x found = absurd (cc found)
  found_at p (y ∷ xs) x found = of (p y) refl (found_at p xs x)
    where
      of : (b : Bool) → p y ≡ b → (find p xs ≡ Some x → (k : ℕ) × (slice_get xs k ≡ Some x) × (p x ≡ true)) → (k : ℕ) × (slice_get (y ∷ xs) k ≡ Some x) × (p x ≡ true)
      of true e later = let here : Some y ≡ Some x = rw e at found in let same : y ≡ x = cc here in (0, here, subst (λ z. p z ≡ true) same e)
      of false e later = let l = later (rw e at found) in (suc l.0, l.1, l.2)

-- ---- Entries by their numbers

pub entry_within : (es : List EntryTree) (k : ℕ) (e : EntryTree) → entry_at es k ≡ Some e → (0 < k) × (k ≤ length es)
entry_within es zero e at = absurd (cc at)
entry_within es (suc k) e at = let within = slice_get_within es k e at in (omega arith, omega (arith, within))

pub entry_more : (es : List EntryTree) (k : ℕ) (x e : EntryTree) → entry_at es k ≡ Some e → entry_at (es ++ x ∷ []) k ≡ Some e
entry_more es zero x e at = absurd (cc at)
entry_more es (suc k) x e at = place_more es k x e at

pub entry_last : (es : List EntryTree) (x : EntryTree) → entry_at (es ++ x ∷ []) (length es + 1) ≡ Some x
entry_last es x = rw add-one (place_last es x)

pub entry_cases : (es : List EntryTree) (k : ℕ) (x e : EntryTree) → entry_at (es ++ x ∷ []) k ≡ Some e → (entry_at es k ≡ Some e) ⊎ ((k ≡ length es + 1) × (x ≡ e))
entry_cases es zero x e at = absurd (cc at)
entry_cases es (suc k) x e at = of (place_cases es k x e at)
  where
    of : (slice_get es k ≡ Some e) ⊎ ((k ≡ length es) × (x ≡ e)) → (slice_get es k ≡ Some e) ⊎ ((suc k ≡ length es + 1) × (x ≡ e))
    of (inl here) = inl here
    of (inr (last, same)) = inr (omega (arith, last), same)
