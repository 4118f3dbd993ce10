-- Items that are kept in a list, where each stands once by a test of two: what the place of an item says.
use Rattle.std.proofs.Common.{◌≡◌, ℕ, ◌<◌, ◌≤◌, Bool, true, false, cond, nat_lt, List, [], ◌∷◌, ◌++◌, length, Some, None, nat_eq, get_or, if◌then◌else◌, refl, sym, ap, subst, ◌∙◌, arith, lt-ltb, unwrap_or}
use Rattle.std.proofs.lemmas.Grind.{common_steps}
use Rattle.std.specs.Bool.{one_answer}
use Rattle.std.specs.Cmp.{unsigned_Decides, IsEquivalence}
use Rattle.std.specs.List.{position, position_or_len, IsDistinct}
use Rattle.std.proofs.lemmas.List.Quantifiers.{position-Some}
use Rattle.std.proofs.lemmas.List.Sums.{fails_before_first, position_or_len_is}
use Rattle.std.proofs.lemmas.Map.Keys.{apart_from_distinct}

module _ {X : Type 0} (test : X → Bool) where
  pub past_the_end : (xs : List X) → position test xs ≡ None → length xs ≤ position_or_len test xs
  past_the_end xs p = grind (arith, common_steps)

  -- where a test has no place, it fails at each
  pub fails_at : (xs : List X) (k : ℕ) (d : X) → k < length xs → position test xs ≡ None → test (get_or xs k d) ≡ false
  fails_at xs k d within p = let past = past_the_end xs p in fails_before_first test xs k d (omega (arith, within, past))

module _ {X : Type 0} (same : X → X → Bool) (laws : IsEquivalence same) (xs : List X) (distinct : IsDistinct same xs) (d : X) where
  -- the item at a place has that place
  pub place_of_item : (i : ℕ) → i < length xs → position (same (get_or xs i d)) xs ≡ Some i
  place_of_item i within =
      let x = get_or xs i d in
      let before : (k : ℕ) → k < i → same x (get_or xs k d) ≡ false =
      λ k h. laws.symm x (get_or xs k d) ∙ apart_from_distinct same xs k i d distinct h within in
      let first = position_or_len_is (same x) xs i d (omega (arith, within)) before (λ h. laws.refl x) in
      ap (λ n. cond (nat_lt n (length xs)) (Some n) None) first ∙ ap (λ b. cond b (Some i) None) (lt-ltb i _ within)

  -- so an item is the one at a place exactly where its own place is that one
  pub same_item : (x : X) (p q : ℕ) → position (same x) xs ≡ Some p → q < length xs → same x (get_or xs q d) ≡ nat_eq p q
  same_item x p q at within =
      one_answer (same x (get_or xs q d)) (nat_eq p q) (to, from) (unsigned_Decides p q)
    where
      to : same x (get_or xs q d) ≡ true → p ≡ q
      to e = ap (λ r. unwrap_or r p) (sym at ∙ (λ i. position (λ y. laws.congr x (get_or xs q d) y e i) xs) ∙ place_of_item q within)

      from : p ≡ q → same x (get_or xs q d) ≡ true
      from e = subst (λ r. same x (get_or xs r d) ≡ true) e (position-Some (same x) xs p d at).1

-- the items after one is put among them, last where it was not there: those that were there keep their places
module _ {X : Type 0} (xs : List X) (b : Bool) (x : X) where
  abbrev pub put_item : List X
  put_item = if b then xs else xs ++ x ∷ []

  pub length-put_item : length xs ≤ length put_item
  length-put_item = by b
    where
      by : (c : Bool) → length xs ≤ length (if c then xs else xs ++ x ∷ [])
      by true = omega arith
      by false = grind (arith, common_steps)

  pub get_or-put_item : (q : ℕ) (d : X) → q < length xs → get_or put_item q d ≡ get_or xs q d
  get_or-put_item q d within = by b
    where
      by : (c : Bool) → get_or (if c then xs else xs ++ x ∷ []) q d ≡ get_or xs q d
      by true = refl
      by false = grind (arith, common_steps)
