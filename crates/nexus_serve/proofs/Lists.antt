-- Facts about lists.
use Rattle.std.proofs.Common.{◌≡◌, Bool, true, false, List, [], ◌∷◌, ◌++◌, length, cond, filter, refl, sym, ◌∙◌, subst}
use Rattle.std.proofs.Math.Seq.{take-append_seam}
use Rattle.std.proofs.lemmas.List.Elements.{All-cons, All-contains, All-contains_itself, All-head, All-nil, All-tail, All-take, All-weaker}
use Rattle.std.specs.Prelude.{All, Contains, map}

module _ {X : Type 0} (P : X → Type 0) where
  -- what holds of a list holds of its front
  pub all_left : (xs ys : List X) → All P (xs ++ ys) → All P xs
  all_left xs ys h = subst (All P) (take-append_seam xs ys) (All-take P (length xs) (xs ++ ys) h)

  -- and of its rest
  pub all_right : (xs ys : List X) → All P (xs ++ ys) → All P ys
  all_right [] ys h = h
  all_right (x ∷ xs) ys h = all_right xs ys (All-tail P x (xs ++ ys) h)

  pub all_last : (xs : List X) (x : X) → All P (xs ++ x ∷ []) → P x
  all_last xs x h = All-head P x [] (all_right xs (x ∷ []) h)

module _ {X : Type 0} (P Q : X → Type 0) where
  -- what holds of each of a list in two ways
  pub all_both : (xs : List X) → All P xs → All Q xs → All (λ x. P x × Q x) xs
  all_both [] p q = All-nil (λ x. P x × Q x)
  all_both (x ∷ xs) p q =
      let here : P x × Q x = (All-head P x xs p, All-head Q x xs q) in
      All-cons (λ x. P x × Q x) x xs here (all_both xs (All-tail P x xs p) (All-tail Q x xs q))

module _ {X : Type 0} (f : X → Bool) (P : X → Type 0) where
  kept_more : (x : X) (xs : List X) (b : Bool) → f x ≡ b → (f x ≡ true → P x) → All P (filter f xs) → All P (filter f (x ∷ xs))
  kept_more x xs true is here rest = subst (λ b. All P (cond b (x ∷ filter f xs) (filter f xs))) (sym is) (All-cons P x (filter f xs) (here is) rest)
  kept_more x xs false is here rest = subst (λ b. All P (cond b (x ∷ filter f xs) (filter f xs))) (sym is) rest

  -- what holds of each that is kept
  pub all_filter : (xs : List X) → All (λ x. f x ≡ true → P x) xs → All P (filter f xs)
  all_filter [] h = All-nil P
  all_filter (x ∷ xs) h = kept_more x xs (f x) refl (All-head (λ y. f y ≡ true → P y) x xs h) (all_filter xs (All-tail (λ y. f y ≡ true → P y) x xs h))

  kept_first : (x : X) (xs : List X) (b : Bool) → f x ≡ b → All P (filter f (x ∷ xs)) → (f x ≡ true → P x) × All P (filter f xs)
  kept_first x xs true is h =
      let all : All P (x ∷ filter f xs) = subst (λ b. All P (cond b (x ∷ filter f xs) (filter f xs))) is h in
      ((λ kept. All-head P x (filter f xs) all), All-tail P x (filter f xs) all)
  kept_first x xs false is h = ((λ kept. absurd (cc (sym is ∙ kept))), subst (λ b. All P (cond b (x ∷ filter f xs) (filter f xs))) is h)

  pub all_unfilter : (xs : List X) → All P (filter f xs) → All (λ x. f x ≡ true → P x) xs
  all_unfilter [] h = All-nil (λ x. f x ≡ true → P x)
  all_unfilter (x ∷ xs) h = let t = kept_first x xs (f x) refl h in All-cons (λ y. f y ≡ true → P y) x xs t.0 (all_unfilter xs t.1)

-- what is kept is of the list
pub contains_unfilter : {X : Type 0} (f : X → Bool) (xs : List X) (x : X) → Contains (filter f xs) x → Contains xs x
contains_unfilter f xs x here =
    All-contains (Contains xs) (filter f xs) x (all_filter f (Contains xs) xs (All-weaker (Contains xs) (λ y. f y ≡ true → Contains xs y) (λ y h kept. h) xs (All-contains_itself xs))) here

-- what holds of each image holds so of each
pub all_unmap : {X Y : Type 0} (P : Y → Type 0) (f : X → Y) (xs : List X) → All P (map f xs) → All (λ x. P (f x)) xs
all_unmap P f [] h = All-nil (λ x. P (f x))
all_unmap P f (x ∷ xs) h = All-cons (λ x. P (f x)) x xs (All-head P (f x) (map f xs) h) (all_unmap P f xs (All-tail P (f x) (map f xs) h))
