-- What stands at a place of a list that was made longer, or written to.
use Rattle.std.proofs.Common.{◌<◌, ◌≡◌, ◌+◌, ◌⊎◌, inl, inr, ℕ, zero, suc, List, [], ◌∷◌, ◌++◌, Bool, true, Some, length, set, refl, ap, arith}
use Rattle.std.specs.List.{Contains, slice_get}
use Rattle.std.proofs.lemmas.Option.{slice_get_within, get_or_from_slice_get, slice_get-get_or, same_Some}

module _ {X : Type 0} where
  -- what stood there still does
  pub got_left : (xs ys : List X) (i : ℕ) (x : X) → slice_get xs i ≡ Some x → slice_get (xs ++ ys) i ≡ Some x
  got_left [] ys i x e = absurd (cc e)
  got_left (y ∷ xs) ys zero x e = e
  got_left (y ∷ xs) ys (suc i) x e = got_left xs ys i x e

  -- what follows stands behind it
  pub got_right : (xs ys : List X) (i : ℕ) (x : X) → slice_get ys i ≡ Some x → slice_get (xs ++ ys) (length xs + i) ≡ Some x
  got_right [] ys i x e = let s : 0 + i ≡ i = omega arith in rw s e
  got_right (y ∷ xs) ys i x e = let s : suc (length xs) + i ≡ suc (length xs + i) = omega arith in rw s (got_right xs ys i x e)

  -- it stood there before, or is one of those that were added
  pub got_cases : (xs ys : List X) (i : ℕ) (x : X) → slice_get (xs ++ ys) i ≡ Some x → (slice_get xs i ≡ Some x) ⊎ ((j : ℕ) × (i ≡ length xs + j) × (slice_get ys j ≡ Some x))
  got_cases [] ys i x e = inr (i, omega arith, e)
  got_cases (y ∷ xs) ys zero x e = inl e
  got_cases (y ∷ xs) ys (suc i) x e = of (got_cases xs ys i x e)
    where
      of : (slice_get xs i ≡ Some x) ⊎ ((j : ℕ) × (i ≡ length xs + j) × (slice_get ys j ≡ Some x)) → (slice_get xs i ≡ Some x) ⊎ ((j : ℕ) × (suc i ≡ suc (length xs) + j) × (slice_get ys j ≡ Some x))
      of (inl there) = inl there
      of (inr (j, at, e)) = inr (j, omega (arith, at), e)

  -- what stands in the list of one is that one
  pub got_one : (y : X) (i : ℕ) (x : X) → slice_get (y ∷ []) i ≡ Some x → y ≡ x
  got_one y zero x e = same_Some y x e
  got_one y (suc i) x e = absurd (cc e)

  -- what stands there after a write was written, or stood there before
  pub got_set : (xs : List X) (j : ℕ) (y : X) (i : ℕ) (x : X) → slice_get (set xs j y) i ≡ Some x → (i ≡ j) ⊎ (slice_get xs i ≡ Some x)
  got_set [] j y i x e = inr e
  got_set (z ∷ xs) zero y zero x e = inl refl
  got_set (z ∷ xs) zero y (suc i) x e = inr e
  got_set (z ∷ xs) (suc j) y zero x e = inr e
  got_set (z ∷ xs) (suc j) y (suc i) x e = of (got_set xs j y i x e)
    where
      of : (i ≡ j) ⊎ (slice_get xs i ≡ Some x) → (suc i ≡ suc j) ⊎ (slice_get xs i ≡ Some x)
      of (inl same) = inl (ap suc same)
      of (inr there) = inr there

  -- what was written stands there
  pub got_written : (xs : List X) (j : ℕ) (y : X) → j < length xs → slice_get (set xs j y) j ≡ Some y
  got_written [] j y within = absurd (omega (arith, within))
  got_written (z ∷ xs) zero y within = refl
  got_written (z ∷ xs) (suc j) y within = got_written xs j y (omega (arith, within))

  -- what stands in a list is contained in it
  pub got_contained : (xs : List X) (i : ℕ) (x : X) → slice_get xs i ≡ Some x → Contains xs x
  got_contained xs i x e = (i, slice_get_within xs i x e, get_or_from_slice_get xs i x x e)

  -- what is contained in a list stands in it
  pub contained_got : (xs : List X) (x : X) → Contains xs x → (i : ℕ) × (slice_get xs i ≡ Some x)
  contained_got xs x (i, within, read) = (i, rw read at (slice_get-get_or xs i x within))

  -- something stands at each place of a list
  pub some_at : (xs : List X) (i : ℕ) → i < length xs → (x : X) × (slice_get xs i ≡ Some x)
  some_at [] i within = absurd (omega (arith, within))
  some_at (y ∷ xs) zero within = (y, refl)
  some_at (y ∷ xs) (suc i) within = some_at xs i (omega (arith, within))

-- a mark is made, and others stay
pub got_set_here : (xs : List Bool) (j : ℕ) → j < length xs → slice_get (set xs j true) j ≡ Some true
got_set_here xs j within = got_written xs j true within

pub got_set_true : (xs : List Bool) (j i : ℕ) → slice_get xs i ≡ Some true → slice_get (set xs j true) i ≡ Some true
got_set_true [] j i e = e
got_set_true (z ∷ xs) zero zero e = refl
got_set_true (z ∷ xs) zero (suc i) e = e
got_set_true (z ∷ xs) (suc j) zero e = e
got_set_true (z ∷ xs) (suc j) (suc i) e = got_set_true xs j i e
