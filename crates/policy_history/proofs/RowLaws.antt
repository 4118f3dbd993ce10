-- What a change of a table leaves as it was.
use Rattle.std.proofs.Common.{◌≡◌, ◌≤◌, ◌+◌, ◌||◌, ℕ, zero, suc, Bool, true, false, cond, List, [], ◌∷◌, ◌++◌, length, Option, Some, None, refl, sym, ap, ◌∙◌, arith, ltb}
use Rattle.std.specs.List.{position, position_or_len, find, slice_get, list_any}
use Rattle.std.specs.Option.{option_map, option_and_then}
use Rattle.std.proofs.lemmas.List.Folds.{find_at}
use Rattle.std.proofs.lemmas.Bool.{ltb-false}
use Rattle.policy_history.specs.Rows.{put, alter, take_out}
use Rattle.policy_history.proofs.RowLists.{place_here, place_there, rest_at, not_first, not_later}

module _ {R : Type 0} (t : R → Bool) where
  -- a place stays where each row before it passes as it did
  place_step : (x y : R) (xs ys : List R) (k : ℕ) → t y ≡ t x → ((j : ℕ) → position t xs ≡ Some j → position t ys ≡ Some j) → position t (x ∷ xs) ≡ Some k → position t (y ∷ ys) ≡ Some k
  place_step x y xs ys k e later at = go (t x) refl k at
    where
      go : (b : Bool) → t x ≡ b → (k : ℕ) → position t (x ∷ xs) ≡ Some k → position t (y ∷ ys) ≡ Some k
      go true s zero at = place_here t y ys (e ∙ s)
      go true s (suc j) at = absurd (not_later t x xs j s at)
      go false s zero at = absurd (not_first t x xs s at)
      go false s (suc j) at =
          let n : j + 1 ≡ suc j = omega arith in
          place_there t y ys (e ∙ s) ∙ ap (option_map (λ k. k + 1)) (later j (rest_at t x xs j s at)) ∙ ap Some n

module _ {R : Type 0} (t p : R → Bool) where
  -- a row that fails one test and not the other
  apart : (x : R) → ((x : R) → p x ≡ true → t x ≡ false) → p x ≡ true → t x ≡ true → ⊥
  apart x other e f = absurd (cc (other x e, f))

  find_by : (x : R) (xs : List R) (b : Bool) → t x ≡ b → find t (x ∷ xs) ≡ cond b (Some x) (find t xs)
  find_by x xs b e = rw e refl

  -- what is found by another test stays
  pub find_put : (row : R) (xs : List R) → t row ≡ false → ((x : R) → p x ≡ true → t x ≡ false) → find t (put p row xs) ≡ find t xs
  find_put row [] new other = find_by row [] false new
  find_put row (x ∷ xs) new other = of (p x) refl (find_put row xs new other)
    where
      of : (b : Bool) → p x ≡ b → find t (put p row xs) ≡ find t xs → find t (put p row (x ∷ xs)) ≡ find t (x ∷ xs)
      of true e later = rw e (find_by row xs false new ∙ sym (find_by x xs false (other x e)))
      of false e later = rw e (both (t x) refl later)
        where
          both : (b : Bool) → t x ≡ b → find t (put p row xs) ≡ find t xs → find t (x ∷ put p row xs) ≡ find t (x ∷ xs)
          both b e later = find_by x (put p row xs) b e ∙ ap (λ o. cond b (Some x) o) later ∙ sym (find_by x xs b e)

  pub find_take_out : (xs : List R) → ((x : R) → p x ≡ true → t x ≡ false) → find t (take_out p xs) ≡ find t xs
  find_take_out [] other = refl
  find_take_out (x ∷ xs) other = of (p x) refl (find_take_out xs other)
    where
      of : (b : Bool) → p x ≡ b → find t (take_out p xs) ≡ find t xs → find t (take_out p (x ∷ xs)) ≡ find t (x ∷ xs)
      of true e later = rw e (sym (find_by x xs false (other x e)))
      of false e later = rw e (both (t x) refl later)
        where
          both : (b : Bool) → t x ≡ b → find t (take_out p xs) ≡ find t xs → find t (x ∷ take_out p xs) ≡ find t (x ∷ xs)
          both b e later = find_by x (take_out p xs) b e ∙ ap (λ o. cond b (Some x) o) later ∙ sym (find_by x xs b e)

  pub find_alter : (f : R → R) (xs : List R) → ((x : R) → p x ≡ true → t x ≡ false) → ((x : R) → p x ≡ true → t (f x) ≡ false) → find t (alter p f xs) ≡ find t xs
  find_alter f [] other new = refl
  find_alter f (x ∷ xs) other new = of (p x) refl (find_alter f xs other new)
    where
      of : (b : Bool) → p x ≡ b → find t (alter p f xs) ≡ find t xs → find t (alter p f (x ∷ xs)) ≡ find t (x ∷ xs)
      of true e later = rw e (find_by (f x) xs false (new x e) ∙ sym (find_by x xs false (other x e)))
      of false e later = rw e (both (t x) refl later)
        where
          both : (b : Bool) → t x ≡ b → find t (alter p f xs) ≡ find t xs → find t (x ∷ alter p f xs) ≡ find t (x ∷ xs)
          both b e later = find_by x (alter p f xs) b e ∙ ap (λ o. cond b (Some x) o) later ∙ sym (find_by x xs b e)

  any_by : (x : R) (xs : List R) (b : Bool) → t x ≡ b → list_any t (x ∷ xs) ≡ (b || list_any t xs)
  any_by x xs b e = rw e refl

  first_by : (x : R) (xs : List R) (b : Bool) → p x ≡ b → find p (x ∷ xs) ≡ cond b (Some x) (find p xs)
  first_by x xs b e = rw e refl

  -- where some row passes, one does after another row went, or was changed
  pub any_take_out : (xs : List R) → ((x : R) → find p xs ≡ Some x → t x ≡ false) → list_any t xs ≡ true → list_any t (take_out p xs) ≡ true
  any_take_out [] other some = some
  any_take_out (x ∷ xs) other some = of (p x) refl (λ e later. any_take_out xs (λ y found. other y (first_by x xs false e ∙ found)) later)
    where
      of : (b : Bool) → p x ≡ b → (p x ≡ false → list_any t xs ≡ true → list_any t (take_out p xs) ≡ true) → list_any t (take_out p (x ∷ xs)) ≡ true
      of true e later = rw e (rw (any_by x xs false (other x (first_by x xs true e))) at some)
      of false e later = rw e (both (t x) refl)
        where
          both : (b : Bool) → t x ≡ b → list_any t (x ∷ take_out p xs) ≡ true
          both true s = any_by x (take_out p xs) true s
          both false s = any_by x (take_out p xs) false s ∙ later e (rw (any_by x xs false s) at some)

  pub any_alter : (f : R → R) (xs : List R) → ((x : R) → find p xs ≡ Some x → t x ≡ false) → list_any t xs ≡ true → list_any t (alter p f xs) ≡ true
  any_alter f [] other some = some
  any_alter f (x ∷ xs) other some = of (p x) refl (λ e later. any_alter f xs (λ y found. other y (first_by x xs false e ∙ found)) later)
    where
      of : (b : Bool) → p x ≡ b → (p x ≡ false → list_any t xs ≡ true → list_any t (alter p f xs) ≡ true) → list_any t (alter p f (x ∷ xs)) ≡ true
      of true e later = rw e (or_true (t (f x)) (list_any t xs) (rw (any_by x xs false (other x (first_by x xs true e))) at some))
        where
          or_true : (a b : Bool) → b ≡ true → (a || b) ≡ true
          or_true true b e = refl
          or_true false b e = e
      of false e later = rw e (both (t x) refl)
        where
          both : (b : Bool) → t x ≡ b → list_any t (x ∷ alter p f xs) ≡ true
          both true s = any_by x (alter p f xs) true s
          both false s = any_by x (alter p f xs) false s ∙ later e (rw (any_by x xs false s) at some)

  -- a row's place stays where the changed row passes as it did
  pub place_put : (row : R) (xs : List R) (k : ℕ) → ((x : R) → p x ≡ true → t x ≡ t row) → position t xs ≡ Some k → position t (put p row xs) ≡ Some k
  place_put row [] k same at = absurd (cc at)
  place_put row (x ∷ xs) k same at = of (p x) refl k at (λ j. place_put row xs j same)
    where
      of : (b : Bool) → p x ≡ b → (k : ℕ) → position t (x ∷ xs) ≡ Some k → ((j : ℕ) → position t xs ≡ Some j → position t (put p row xs) ≡ Some j) → position t (put p row (x ∷ xs)) ≡ Some k
      of true e k at later = rw e (place_step t x row xs xs k (sym (same x e)) (λ j h. h) at)
      of false e k at later = rw e (place_step t x x xs (put p row xs) k refl later at)

  pub place_alter : (f : R → R) (xs : List R) (k : ℕ) → ((x : R) → p x ≡ true → t (f x) ≡ t x) → position t xs ≡ Some k → position t (alter p f xs) ≡ Some k
  place_alter f [] k same at = absurd (cc at)
  place_alter f (x ∷ xs) k same at = of (p x) refl k at (λ j. place_alter f xs j same)
    where
      of : (b : Bool) → p x ≡ b → (k : ℕ) → position t (x ∷ xs) ≡ Some k → ((j : ℕ) → position t xs ≡ Some j → position t (alter p f xs) ≡ Some j) → position t (alter p f (x ∷ xs)) ≡ Some k
      of true e k at later = rw e (place_step t x (f x) xs xs k (same x e) (λ j h. h) at)
      of false e k at later = rw e (place_step t x x xs (alter p f xs) k refl later at)

module _ {R : Type 0} (t : R → Bool) where
  -- and where rows follow
  pub place_append : (xs ys : List R) (k : ℕ) → position t xs ≡ Some k → position t (xs ++ ys) ≡ Some k
  place_append [] ys k at = absurd (cc at)
  place_append (x ∷ xs) ys k at = place_step t x x xs (xs ++ ys) k refl (λ j h. place_append xs ys j h) at

  -- the first row that passes stands at the first place that does
  pub find_is : {A : Type 0} (f : R → Option A) (xs : List R) → option_and_then (λ k. option_and_then f (slice_get xs k)) (position t xs) ≡ option_and_then f (find t xs)
  find_is f xs = of (ltb (position_or_len t xs) (length xs)) refl
    where
      past : (xs : List R) (k : ℕ) → length xs ≤ k → slice_get xs k ≡ None
      past [] k h = refl
      past (x ∷ xs) zero h = absurd (omega (arith, h))
      past (x ∷ xs) (suc k) h = past xs k (omega (arith, h))

      of : (b : Bool) → ltb (position_or_len t xs) (length xs) ≡ b → option_and_then (λ k. option_and_then f (slice_get xs k)) (position t xs) ≡ option_and_then f (find t xs)
      of true e = rw e (ap (option_and_then f) (sym (find_at t xs)))
      of false e = rw e (ap (option_and_then f) (sym (find_at t xs ∙ past xs (position_or_len t xs) (ltb-false (position_or_len t xs) (length xs) e))))

module _ {R : Type 0} (p : R → Bool) where
  -- a row that fails stays where it is
  pub row_put : (row : R) (xs : List R) (k : ℕ) (x : R) → slice_get xs k ≡ Some x → p x ≡ false → slice_get (put p row xs) k ≡ Some x
  row_put row [] k x at other = absurd (cc at)
  row_put row (y ∷ xs) zero x at other =
      let same : y ≡ x = cc at in
      let e : p y ≡ false = ap p same ∙ other in
      rw e (ap Some same)
  row_put row (y ∷ xs) (suc k) x at other = of (p y) refl (row_put row xs k x at other)
    where
      of : (b : Bool) → p y ≡ b → slice_get (put p row xs) k ≡ Some x → slice_get (put p row (y ∷ xs)) (suc k) ≡ Some x
      of true e later = rw e at
      of false e later = rw e later

  pub row_alter : (f : R → R) (xs : List R) (k : ℕ) (x : R) → slice_get xs k ≡ Some x → p x ≡ false → slice_get (alter p f xs) k ≡ Some x
  row_alter f [] k x at other = absurd (cc at)
  row_alter f (y ∷ xs) zero x at other =
      let same : y ≡ x = cc at in
      let e : p y ≡ false = ap p same ∙ other in
      rw e (ap Some same)
  row_alter f (y ∷ xs) (suc k) x at other = of (p y) refl (row_alter f xs k x at other)
    where
      of : (b : Bool) → p y ≡ b → slice_get (alter p f xs) k ≡ Some x → slice_get (alter p f (y ∷ xs)) (suc k) ≡ Some x
      of true e later = rw e at
      of false e later = rw e later
