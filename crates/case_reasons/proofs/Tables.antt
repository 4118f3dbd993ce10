-- Rows of a table that are found by one test, where at most one passes it.
use Rattle.std.proofs.Common.{◌≡◌, Bool, true, false, cond, List, [], ◌∷◌, Some, None, refl, sym, ap, ◌∙◌}
use Rattle.std.specs.List.{find}
use Rattle.std.specs.Option.{option_map}
use Rattle.policy_history.specs.Rows.{put, alter, take_out}
use Rattle.policy_history.proofs.ForCallers.{find_put, find_take_out}

module _ {R : Type 0} (t : R → Bool) where
  -- by whether the first row passes
  pub find_by : (x : R) (xs : List R) (b : Bool) → t x ≡ b → find t (x ∷ xs) ≡ cond b (Some x) (find t xs)
  find_by x xs b e = rw e refl

  out_by : (x : R) (xs : List R) (b : Bool) → t x ≡ b → take_out t (x ∷ xs) ≡ cond b xs (x ∷ take_out t xs)
  out_by x xs b e = rw e refl

  pub put_by : (row x : R) (xs : List R) (b : Bool) → t x ≡ b → put t row (x ∷ xs) ≡ cond b (row ∷ xs) (x ∷ put t row xs)
  put_by row x xs b e = rw e refl

  pub alter_by : (f : R → R) (x : R) (xs : List R) (b : Bool) → t x ≡ b → alter t f (x ∷ xs) ≡ cond b (f x ∷ xs) (x ∷ alter t f xs)
  alter_by f x xs b e = rw e refl

  -- what was put is found
  pub put_found : (row : R) (xs : List R) → t row ≡ true → find t (put t row xs) ≡ Some row
  put_found row [] passes = find_by row [] true passes
  put_found row (x ∷ xs) passes = of (t x) refl (put_found row xs passes)
    where
      of : (b : Bool) → t x ≡ b → find t (put t row xs) ≡ Some row → find t (put t row (x ∷ xs)) ≡ Some row
      of true e rest = ap (find t) (put_by row x xs true e) ∙ find_by row xs true passes
      of false e rest = ap (find t) (put_by row x xs false e) ∙ find_by x (put t row xs) false e ∙ rest

  -- and what was altered, as it is now
  pub alter_found : (f : R → R) (xs : List R) → ((x : R) → t x ≡ true → t (f x) ≡ true) → find t (alter t f xs) ≡ option_map f (find t xs)
  alter_found f [] passes = refl
  alter_found f (x ∷ xs) passes = of (t x) refl (alter_found f xs passes)
    where
      of : (b : Bool) → t x ≡ b → find t (alter t f xs) ≡ option_map f (find t xs) → find t (alter t f (x ∷ xs)) ≡ option_map f (find t (x ∷ xs))
      of true e rest = ap (find t) (alter_by f x xs true e) ∙ find_by (f x) xs true (passes x e) ∙ ap (option_map f) (sym (find_by x xs true e))
      of false e rest = ap (find t) (alter_by f x xs false e) ∙ find_by x (alter t f xs) false e ∙ rest ∙ ap (option_map f) (sym (find_by x xs false e))

  -- at most one row passes: behind the first none does
  abbrev pub IsAlone : List R → Type 0
  IsAlone xs = find t (take_out t xs) ≡ None

  out_none : (xs : List R) → find t xs ≡ None → take_out t xs ≡ xs
  out_none [] none = refl
  out_none (x ∷ xs) none = of (t x) refl (out_none xs)
    where
      of : (b : Bool) → t x ≡ b → (find t xs ≡ None → take_out t xs ≡ xs) → take_out t (x ∷ xs) ≡ x ∷ xs
      of true e rest = absurd (cc (find_by x xs true e, none))
      of false e rest = out_by x xs false e ∙ ap (λ (ys : List R). x ∷ ys) (rest (sym (find_by x xs false e) ∙ none))

  pub alone_out : (xs : List R) → IsAlone xs → IsAlone (take_out t xs)
  alone_out xs alone = ap (find t) (out_none (take_out t xs) alone) ∙ alone

  pub alone_put : (row : R) (xs : List R) → t row ≡ true → IsAlone xs → IsAlone (put t row xs)
  alone_put row [] passes alone = ap (find t) (out_by row [] true passes)
  alone_put row (x ∷ xs) passes alone = of (t x) refl (alone_put row xs passes)
    where
      of : (b : Bool) → t x ≡ b → (IsAlone xs → IsAlone (put t row xs)) → IsAlone (put t row (x ∷ xs))
      of true e rest = ap (λ (ys : List R). find t (take_out t ys)) (put_by row x xs true e) ∙ ap (find t) (out_by row xs true passes) ∙ ap (find t) (sym (out_by x xs true e)) ∙ alone
      of false e rest =
          ap (λ (ys : List R). find t (take_out t ys)) (put_by row x xs false e) ∙ ap (find t) (out_by x (put t row xs) false e) ∙ find_by x (take_out t (put t row xs)) false e
          ∙ rest (sym (find_by x (take_out t xs) false e) ∙ ap (find t) (sym (out_by x xs false e)) ∙ alone)

module _ {R : Type 0} (t p : R → Bool) (apart : (x : R) → p x ≡ true → t x ≡ false) where
  -- a change of other rows leaves that
  pub alone_put_other : (row : R) (xs : List R) → t row ≡ false → IsAlone t xs → IsAlone t (put p row xs)
  alone_put_other row [] fails alone = ap (find t) (out_by t row [] false fails) ∙ find_by t row [] false fails
  alone_put_other row (x ∷ xs) fails alone = of (p x) refl (alone_put_other row xs fails)
    where
      of : (b : Bool) → p x ≡ b → (IsAlone t xs → IsAlone t (put p row xs)) → IsAlone t (put p row (x ∷ xs))
      of true e rest =
          let other = apart x e in
          ap (λ (ys : List R). find t (take_out t ys)) (put_by p row x xs true e) ∙ ap (find t) (out_by t row xs false fails) ∙ find_by t row (take_out t xs) false fails
          ∙ sym (find_by t x (take_out t xs) false other) ∙ ap (find t) (sym (out_by t x xs false other)) ∙ alone
      of false e rest = ap (λ (ys : List R). find t (take_out t ys)) (put_by p row x xs false e) ∙ both (t x) refl
        where
          both : (b : Bool) → t x ≡ b → find t (take_out t (x ∷ put p row xs)) ≡ None
          both true s = ap (find t) (out_by t x (put p row xs) true s) ∙ find_put t p row xs fails apart ∙ ap (find t) (sym (out_by t x xs true s)) ∙ alone
          both false s =
              ap (find t) (out_by t x (put p row xs) false s) ∙ find_by t x (take_out t (put p row xs)) false s
              ∙ rest (sym (find_by t x (take_out t xs) false s) ∙ ap (find t) (sym (out_by t x xs false s)) ∙ alone)

  pub alone_out_other : (xs : List R) → IsAlone t xs → IsAlone t (take_out p xs)
  alone_out_other [] alone = refl
  alone_out_other (x ∷ xs) alone = of (p x) refl (alone_out_other xs)
    where
      of : (b : Bool) → p x ≡ b → (IsAlone t xs → IsAlone t (take_out p xs)) → IsAlone t (take_out p (x ∷ xs))
      of true e rest =
          let other = apart x e in
          ap (λ (ys : List R). find t (take_out t ys)) (out_by p x xs true e) ∙ sym (find_by t x (take_out t xs) false other) ∙ ap (find t) (sym (out_by t x xs false other)) ∙ alone
      of false e rest = ap (λ (ys : List R). find t (take_out t ys)) (out_by p x xs false e) ∙ both (t x) refl
        where
          both : (b : Bool) → t x ≡ b → find t (take_out t (x ∷ take_out p xs)) ≡ None
          both true s = ap (find t) (out_by t x (take_out p xs) true s) ∙ find_take_out t p xs apart ∙ ap (find t) (sym (out_by t x xs true s)) ∙ alone
          both false s =
              ap (find t) (out_by t x (take_out p xs) false s) ∙ find_by t x (take_out t (take_out p xs)) false s
              ∙ rest (sym (find_by t x (take_out t xs) false s) ∙ ap (find t) (sym (out_by t x xs false s)) ∙ alone)
