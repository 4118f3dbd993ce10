-- The changes of a table, by the place of the row that changes.
use Rattle.std.proofs.Common.{◌≡◌, ◌<◌, ◌≤◌, ◌+◌, ℕ, zero, suc, Bool, true, false, cond, List, [], ◌∷◌, ◌++◌, length, get_or, set, Option, Some, None, refl, sym, ap, ◌∙◌, arith, ltb, lt-ltb}
use Rattle.std.specs.List.{position, position_or_len, remove}
use Rattle.std.specs.Option.{option_map}
use Rattle.std.proofs.lemmas.Bool.{ltb-true, ltb-false, le-ltb}
use Rattle.std.proofs.lemmas.Grind.{common_steps}
use Rattle.policy_history.specs.Rows.{put, alter, take_out}

-- one more before a place that is counted
one_more : (n m : ℕ) → cond (ltb (1 + n) (suc m)) (Some (1 + n)) None ≡ option_map (λ k. k + 1) (cond (ltb n m) (Some n) None)
one_more n m = of (ltb n m) refl
  where
    of : (b : Bool) → ltb n m ≡ b → cond (ltb (1 + n) (suc m)) (Some (1 + n)) None ≡ option_map (λ k. k + 1) (cond (ltb n m) (Some n) None)
    of true e =
        let below : n < m = ltb-true n m e in
        let same : 1 + n ≡ n + 1 = omega arith in
        rw (e, lt-ltb (1 + n) (suc m) (omega (arith, below))) (ap Some same)
    of false e =
        let above : m ≤ n = ltb-false n m e in
        rw (e, le-ltb (1 + n) (suc m) (omega (arith, above))) refl

module _ {R : Type 0} (p : R → Bool) where
  -- the place of a row, by the first of the list
  pub place_here : (x : R) (xs : List R) → p x ≡ true → position p (x ∷ xs) ≡ Some 0
  place_here x xs e = rw e (grind (arith, common_steps))

  pub place_there : (x : R) (xs : List R) → p x ≡ false → position p (x ∷ xs) ≡ option_map (λ k. k + 1) (position p xs)
  place_there x xs e = rw e (one_more (position_or_len p xs) (length xs))

  -- the place in the rest of the list
  rest_none : (x : R) (xs : List R) → p x ≡ false → position p (x ∷ xs) ≡ None → position p xs ≡ None
  rest_none x xs e none = of (position p xs) refl
    where
      of : (o : Option ℕ) → position p xs ≡ o → position p xs ≡ None
      of None s = s
      of (Some k) s = absurd (cc (place_there x xs e, none, s))

  rest_some : (x : R) (xs : List R) (k : ℕ) → p x ≡ false → position p (x ∷ xs) ≡ Some k → (j : ℕ) × (k ≡ suc j) × (position p xs ≡ Some j)
  rest_some x xs k e at = of (position p xs) refl
    where
      of : (o : Option ℕ) → position p xs ≡ o → (j : ℕ) × (k ≡ suc j) × (position p xs ≡ Some j)
      of None s = absurd (cc (place_there x xs e, at, s))
      of (Some j) s =
          let t : Some k ≡ Some (j + 1) = sym at ∙ place_there x xs e ∙ ap (option_map (λ n. n + 1)) s in
          let u : k ≡ j + 1 = cc t in
          (j, omega (arith, u), s)

  first_is : (x : R) (xs : List R) (k : ℕ) → p x ≡ true → position p (x ∷ xs) ≡ Some k → k ≡ 0
  first_is x xs k e at = cc (place_here x xs e, at)

  put_by : (row x : R) (xs : List R) (b : Bool) → p x ≡ b → put p row (x ∷ xs) ≡ cond b (row ∷ xs) (x ∷ put p row xs)
  put_by row x xs b e = rw e refl

  alter_by : (f : R → R) (x : R) (xs : List R) (b : Bool) → p x ≡ b → alter p f (x ∷ xs) ≡ cond b (f x ∷ xs) (x ∷ alter p f xs)
  alter_by f x xs b e = rw e refl

  take_out_by : (x : R) (xs : List R) (b : Bool) → p x ≡ b → take_out p (x ∷ xs) ≡ cond b xs (x ∷ take_out p xs)
  take_out_by x xs b e = rw e refl

  -- a row that is not there goes last
  pub put_last : (row : R) (xs : List R) → position p xs ≡ None → put p row xs ≡ xs ++ row ∷ []
  put_last row [] none = refl
  put_last row (x ∷ xs) none = of (p x) refl (λ e. put_last row xs (rest_none x xs e none))
    where
      of : (b : Bool) → p x ≡ b → (p x ≡ false → put p row xs ≡ xs ++ row ∷ []) → put p row (x ∷ xs) ≡ (x ∷ xs) ++ row ∷ []
      of true e later = absurd (cc (place_here x xs e, none))
      of false e later = put_by row x xs false e ∙ ap (λ ys. x ∷ ys) (later e)

  pub rest_at : (x : R) (xs : List R) (j : ℕ) → p x ≡ false → position p (x ∷ xs) ≡ Some (suc j) → position p xs ≡ Some j
  rest_at x xs j e at =
      let r = rest_some x xs (suc j) e at in
      let same : r.0 ≡ j = omega (arith, r.1) in
      rw same at r.2

  pub not_first : (x : R) (xs : List R) → p x ≡ false → position p (x ∷ xs) ≡ Some 0 → ⊥
  not_first x xs e at = let r = rest_some x xs 0 e at in absurd (omega (arith, r.1))

  pub not_later : (x : R) (xs : List R) (j : ℕ) → p x ≡ true → position p (x ∷ xs) ≡ Some (suc j) → ⊥
  not_later x xs j e at = let z = first_is x xs (suc j) e at in absurd (omega (arith, z))

  -- one that is there is replaced
  pub put_in_place : (row : R) (xs : List R) (k : ℕ) → position p xs ≡ Some k → put p row xs ≡ set xs k row
  put_in_place row [] k at = absurd (cc at)
  put_in_place row (x ∷ xs) zero at = of (p x) refl
    where
      of : (b : Bool) → p x ≡ b → put p row (x ∷ xs) ≡ set (x ∷ xs) zero row
      of true e = put_by row x xs true e
      of false e = absurd (not_first x xs e at)
  put_in_place row (x ∷ xs) (suc j) at = of (p x) refl (λ e. put_in_place row xs j (rest_at x xs j e at))
    where
      of : (b : Bool) → p x ≡ b → (p x ≡ false → put p row xs ≡ set xs j row) → put p row (x ∷ xs) ≡ set (x ∷ xs) (suc j) row
      of true e later = absurd (not_later x xs j e at)
      of false e later = put_by row x xs false e ∙ ap (λ ys. x ∷ ys) (later e)

  pub alter_in_place : (f : R → R) (xs : List R) (k : ℕ) (d : R) → position p xs ≡ Some k → alter p f xs ≡ set xs k (f (get_or xs k d))
  alter_in_place f [] k d at = absurd (cc at)
  alter_in_place f (x ∷ xs) zero d at = of (p x) refl
    where
      of : (b : Bool) → p x ≡ b → alter p f (x ∷ xs) ≡ set (x ∷ xs) zero (f (get_or (x ∷ xs) zero d))
      of true e = alter_by f x xs true e
      of false e = absurd (not_first x xs e at)
  alter_in_place f (x ∷ xs) (suc j) d at = of (p x) refl (λ e. alter_in_place f xs j d (rest_at x xs j e at))
    where
      of : (b : Bool) → p x ≡ b → (p x ≡ false → alter p f xs ≡ set xs j (f (get_or xs j d))) → alter p f (x ∷ xs) ≡ set (x ∷ xs) (suc j) (f (get_or (x ∷ xs) (suc j) d))
      of true e later = absurd (not_later x xs j e at)
      of false e later = alter_by f x xs false e ∙ ap (λ ys. x ∷ ys) (later e)

  pub take_out_place : (xs : List R) (k : ℕ) → position p xs ≡ Some k → take_out p xs ≡ remove xs k
  take_out_place [] k at = absurd (cc at)
  take_out_place (x ∷ xs) zero at = of (p x) refl
    where
      of : (b : Bool) → p x ≡ b → take_out p (x ∷ xs) ≡ remove (x ∷ xs) zero
      of true e = take_out_by x xs true e ∙ grind (arith, common_steps)
      of false e = absurd (not_first x xs e at)
  take_out_place (x ∷ xs) (suc j) at = of (p x) refl (λ e. take_out_place xs j (rest_at x xs j e at))
    where
      of : (b : Bool) → p x ≡ b → (p x ≡ false → take_out p xs ≡ remove xs j) → take_out p (x ∷ xs) ≡ remove (x ∷ xs) (suc j)
      of true e later = absurd (not_later x xs j e at)
      of false e later = take_out_by x xs false e ∙ ap (λ ys. x ∷ ys) (later e) ∙ grind (arith, common_steps)
