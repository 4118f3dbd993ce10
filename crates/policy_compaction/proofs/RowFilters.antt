-- A change of a table, and the rows of it that pass a test.
use Rattle.std.proofs.Common.{◌≡◌, ◌≤◌, suc, Bool, true, false, cond, not, List, [], ◌∷◌, filter, length, refl, sym, ap, ◌∙◌, arith}
use Rattle.std.specs.List.{find, list_any}
use Rattle.std.proofs.lemmas.List.Filters.{length-filter_both}
use Rattle.policy_history.specs.Rows.{put, alter}
use Rattle.case_reasons.proofs.ForCallers.{alter_by, find_by, put_by}

module _ {R : Type 0} where
  pub filter_by : (p : R → Bool) (x : R) (xs : List R) (b : Bool) → p x ≡ b → filter p (x ∷ xs) ≡ cond b (x ∷ filter p xs) (filter p xs)
  filter_by p x xs b e = ap (λ (t : Bool). cond t (x ∷ filter p xs) (filter p xs)) e

-- ---- Which rows pass

pub filter_few : {R : Type 0} (p : R → Bool) (xs : List R) → length (filter p xs) ≤ length xs
filter_few p xs = let both = length-filter_both p (λ x. not (p x)) (λ x. refl) xs in omega (arith, both)

module _ {R : Type 0} (u v : R → Bool) where
  -- what passes one test passes the other
  module _ (wide : (x : R) → u x ≡ true → v x ≡ true) where
    -- so no fewer pass it: of x and of rows of which this holds
    no_fewer : (x : R) (xs ys : List R) → length (filter u xs) ≤ length (filter v ys) → length (filter u (x ∷ xs)) ≤ length (filter v (x ∷ ys))
    no_fewer x xs ys few = of (u x) refl (v x) refl
      where
        of : (a : Bool) → u x ≡ a → (b : Bool) → v x ≡ b → length (filter u (x ∷ xs)) ≤ length (filter v (x ∷ ys))
        of true e true f = rw (filter_by u x xs true e, filter_by v x ys true f) (omega (arith, few))
        of true e false f = absurd (cc (wide x e, f))
        of false e true f = rw (filter_by u x xs false e, filter_by v x ys true f) (omega (arith, few))
        of false e false f = rw (filter_by u x xs false e, filter_by v x ys false f) few

    pub wider : (xs : List R) → length (filter u xs) ≤ length (filter v xs)
    wider [] = omega arith
    wider (x ∷ xs) = no_fewer x xs xs (wider xs)

    -- where a row changes that did not pass the first test
    module _ (p : R → Bool) (out : (x : R) → p x ≡ true → u x ≡ false) where
      at_least : (x : R) (xs : List R) → length (filter v xs) ≤ length (filter v (x ∷ xs))
      at_least x xs = of (v x) refl
        where
          of : (b : Bool) → v x ≡ b → length (filter v xs) ≤ length (filter v (x ∷ xs))
          of true e = rw (filter_by v x xs true e) (omega arith)
          of false e = rw (filter_by v x xs false e) (omega arith)

      first_out : (x y : R) (xs : List R) → p x ≡ true → length (filter u (x ∷ xs)) ≤ length (filter v (y ∷ xs))
      first_out x y xs e =
          let few = wider xs in
          let more = at_least y xs in
          rw (filter_by u x xs false (out x e)) (omega (arith, few, more))

      pub wider_put : (row : R) (xs : List R) → length (filter u xs) ≤ length (filter v (put p row xs))
      wider_put row [] = at_least row []
      wider_put row (x ∷ xs) = of (p x) refl (wider_put row xs)
        where
          of : (b : Bool) → p x ≡ b → length (filter u xs) ≤ length (filter v (put p row xs)) → length (filter u (x ∷ xs)) ≤ length (filter v (put p row (x ∷ xs)))
          of true e rest = rw (put_by p row x xs true e) (first_out x row xs e)
          of false e rest = rw (put_by p row x xs false e) (no_fewer x xs (put p row xs) rest)

      pub wider_alter : (f : R → R) (xs : List R) → length (filter u xs) ≤ length (filter v (alter p f xs))
      wider_alter f [] = omega arith
      wider_alter f (x ∷ xs) = of (p x) refl (wider_alter f xs)
        where
          of : (b : Bool) → p x ≡ b → length (filter u xs) ≤ length (filter v (alter p f xs)) → length (filter u (x ∷ xs)) ≤ length (filter v (alter p f (x ∷ xs)))
          of true e rest = rw (alter_by p f x xs true e) (first_out x (f x) xs e)
          of false e rest = rw (alter_by p f x xs false e) (no_fewer x xs (alter p f xs) rest)

      -- and the new row passes the second
      pub more_put : (row : R) (xs : List R) → v row ≡ true → suc (length (filter u xs)) ≤ length (filter v (put p row xs))
      more_put row [] passes = rw (filter_by v row [] true passes) (omega arith)
      more_put row (x ∷ xs) passes = of (p x) refl (more_put row xs passes)
        where
          of : (b : Bool) → p x ≡ b → suc (length (filter u xs)) ≤ length (filter v (put p row xs)) → suc (length (filter u (x ∷ xs))) ≤ length (filter v (put p row (x ∷ xs)))
          of true e rest =
              let few = wider xs in
              rw (put_by p row x xs true e, filter_by u x xs false (out x e), filter_by v row xs true passes) (omega (arith, few))
          of false e rest = rw (put_by p row x xs false e) (one_more (u x) refl (v x) refl)
            where
              one_more : (a : Bool) → u x ≡ a → (b : Bool) → v x ≡ b → suc (length (filter u (x ∷ xs))) ≤ length (filter v (x ∷ put p row xs))
              one_more true e true f = rw (filter_by u x xs true e, filter_by v x (put p row xs) true f) (omega (arith, rest))
              one_more true e false f = absurd (cc (wide x e, f))
              one_more false e true f = rw (filter_by u x xs false e, filter_by v x (put p row xs) true f) (omega (arith, rest))
              one_more false e false f = rw (filter_by u x xs false e, filter_by v x (put p row xs) false f) rest

      -- where one is there that does not pass, not all do
      pub not_all : (xs : List R) → list_any p xs ≡ true → suc (length (filter u xs)) ≤ length xs
      not_all [] some = absurd (cc some)
      not_all (x ∷ xs) some = of (p x) refl (not_all xs)
        where
          of : (b : Bool) → p x ≡ b → (list_any p xs ≡ true → suc (length (filter u xs)) ≤ length xs) → suc (length (filter u (x ∷ xs))) ≤ suc (length xs)
          of true e rest = let few = filter_few u xs in rw (filter_by u x xs false (out x e)) (omega (arith, few))
          of false e rest = either (u x) (rest (rw e at some))
            where
              either : (b : Bool) → suc (length (filter u xs)) ≤ length xs → suc (length (cond b (x ∷ filter u xs) (filter u xs))) ≤ suc (length xs)
              either true few = omega (arith, few)
              either false few = omega (arith, few)

-- a row that is put is one more at most
pub length-put : {R : Type 0} (p : R → Bool) (row : R) (xs : List R) → length (put p row xs) ≤ suc (length xs)
length-put p row [] = omega arith
length-put p row (x ∷ xs) = of (p x) (length-put p row xs)
  where
    of : (b : Bool) → length (put p row xs) ≤ suc (length xs) → length (cond b (row ∷ xs) (x ∷ put p row xs)) ≤ suc (suc (length xs))
    of true few = omega arith
    of false few = omega (arith, few)

-- ---- Rows of which one changes

module _ {R : Type 0} (keeps p : R → Bool) where
  -- it is found among those that are kept, and changes there
  pub find_kept : ((x : R) → p x ≡ true → keeps x ≡ true) → (xs : List R) → find p (filter keeps xs) ≡ find p xs
  find_kept within [] = refl
  find_kept within (x ∷ xs) = of (p x) refl (keeps x) refl (find_kept within xs)
    where
      of : (a : Bool) → p x ≡ a → (b : Bool) → keeps x ≡ b → find p (filter keeps xs) ≡ find p xs → find p (filter keeps (x ∷ xs)) ≡ find p (x ∷ xs)
      of true e true f rest = rw (filter_by keeps x xs true f) (find_by p x (filter keeps xs) true e ∙ sym (find_by p x xs true e))
      of true e false f rest = absurd (cc (within x e, f))
      of false e true f rest = rw (filter_by keeps x xs true f) (find_by p x (filter keeps xs) false e ∙ rest ∙ sym (find_by p x xs false e))
      of false e false f rest = rw (filter_by keeps x xs false f) (rest ∙ sym (find_by p x xs false e))

  pub alter_kept : (f : R → R) → ((x : R) → p x ≡ true → keeps x ≡ true) → ((x : R) → p x ≡ true → keeps (f x) ≡ true) → (xs : List R) → filter keeps (alter p f xs) ≡ alter p f (filter keeps xs)
  alter_kept f within stays [] = refl
  alter_kept f within stays (x ∷ xs) = of (p x) refl (keeps x) refl (alter_kept f within stays xs)
    where
      of : (a : Bool) → p x ≡ a → (b : Bool) → keeps x ≡ b → filter keeps (alter p f xs) ≡ alter p f (filter keeps xs) → filter keeps (alter p f (x ∷ xs)) ≡ alter p f (filter keeps (x ∷ xs))
      of true e true s rest =
          rw (alter_by p f x xs true e, filter_by keeps x xs true s) (filter_by keeps (f x) xs true (stays x e) ∙ sym (alter_by p f x (filter keeps xs) true e))
      of true e false s rest = absurd (cc (within x e, s))
      of false e true s rest =
          rw (alter_by p f x xs false e, filter_by keeps x xs true s) (filter_by keeps x (alter p f xs) true s ∙ ap (λ (ys : List R). x ∷ ys) rest ∙ sym (alter_by p f x (filter keeps xs) false e))
      of false e false s rest = rw (alter_by p f x xs false e, filter_by keeps x xs false s) (filter_by keeps x (alter p f xs) false s ∙ rest)

  -- it is none of those that are kept, before and after
  pub alter_left : (f : R → R) → ((x : R) → p x ≡ true → keeps x ≡ false) → ((x : R) → p x ≡ true → keeps (f x) ≡ false) → (xs : List R) → filter keeps (alter p f xs) ≡ filter keeps xs
  alter_left f out stays [] = refl
  alter_left f out stays (x ∷ xs) = of (p x) refl (alter_left f out stays xs)
    where
      of : (a : Bool) → p x ≡ a → filter keeps (alter p f xs) ≡ filter keeps xs → filter keeps (alter p f (x ∷ xs)) ≡ filter keeps (x ∷ xs)
      of true e rest = rw (alter_by p f x xs true e) (filter_by keeps (f x) xs false (stays x e) ∙ sym (filter_by keeps x xs false (out x e)))
      of false e rest = rw (alter_by p f x xs false e) (ap (λ (ys : List R). cond (keeps x) (x ∷ ys) ys) rest)
