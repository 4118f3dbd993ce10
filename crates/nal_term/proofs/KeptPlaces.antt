-- The first item that passes a test keeps its place as a list grows at its end, and as items change whose test stays.
use Rattle.std.proofs.Common.{◌≡◌, ℕ, ◌+◌, Bool, true, not, refl, cond, nat_lt, List, [], ◌∷◌, ◌++◌, length, length-append, get_or, slice_set, Some, None, ap, ◌∙◌, arith, lt-ltb, ne_eqb, eq-eqb, nat_eq}
use Rattle.std.specs.List.{position, position_or_len}
use Rattle.std.proofs.lemmas.List.{length-set}
use Rattle.std.proofs.lemmas.List.Folds.{position_or_len_push, position_or_len-set}
use Rattle.std.proofs.lemmas.List.Quantifiers.{position-Some}
use Rattle.std.proofs.lemmas.List.Sums.{position_or_len_is, prefix_len-le-length}
use Rattle.nal_term.proofs.Places.{past_the_end}

module _ {X : Type 0} (p : X → Bool) (xs : List X) where
  pub place_stays : (y : X) (k : ℕ) → position p xs ≡ Some k → position p (xs ++ y ∷ []) ≡ Some k
  place_stays y k at =
      let found = position-Some p xs k y at in
      let within = found.0 in
      let first : position_or_len p xs ≡ k = position_or_len_is p xs k y (omega (arith, within)) found.2 (λ h. found.1) in
      let n = length xs in
      let longer = length-append xs (y ∷ []) in
      let still : position_or_len p (xs ++ y ∷ []) ≡ k =
      position_or_len_push p xs y ∙ ap (λ q. cond (nat_eq q n) (n + cond (p y) 0 1) q) first ∙ ap (λ b. cond b (n + cond (p y) 0 1) k) (ne_eqb k n (λ e. omega (arith, e, within))) in
      ap (λ q. cond (nat_lt q (length (xs ++ y ∷ []))) (Some q) None) still ∙ ap (λ b. cond b (Some k) None) (lt-ltb k _ (omega (arith, within, longer)))

  -- one that passes and is the first, at the end
  pub place_of_new : (y : X) → p y ≡ true → position p xs ≡ None → position p (xs ++ y ∷ []) ≡ Some (length xs)
  place_of_new y passes none =
      let n = length xs in
      let past = past_the_end p xs none in
      let most = prefix_len-le-length (λ x. not (p x)) xs in
      let first : position_or_len p xs ≡ n = omega (arith, past, most) in
      let longer = length-append xs (y ∷ []) in
      let at : position_or_len p (xs ++ y ∷ []) ≡ n =
      position_or_len_push p xs y ∙ ap (λ q. cond (nat_eq q n) (n + cond (p y) 0 1) q) first ∙ ap (λ b. cond b (n + cond (p y) 0 1) n) (eq-eqb n n refl) ∙ ap (λ b. n + cond b 0 1) passes ∙ omega arith in
      ap (λ q. cond (nat_lt q (length (xs ++ y ∷ []))) (Some q) None) at ∙ ap (λ b. cond b (Some n) None) (lt-ltb n _ (omega (arith, longer)))

  pub place_stays_set : (i : ℕ) (y d : X) → p y ≡ p (get_or xs i d) → position p (slice_set xs i y) ≡ position p xs
  place_stays_set i y d same =
      let first = position_or_len-set p xs i y d same in
      let n = length-set xs i y in
      λ j. cond (nat_lt (first j) (n j)) (Some (first j)) None
