-- The entries of a map that are seen as rows, by a function of each entry: a test of rows that agrees with a
-- test of keys finds a row where the map finds its key, and what the map does to its entries is done to the rows.
use Rattle.std.specs.List.{find}
use Rattle.std.specs.Map.{lookup}
use Rattle.std.specs.Option.{option_map}
use Rattle.std.proofs.Common.{Option, true, false, arith, le-ltb, ◌≡◌, ◌+◌, ℕ, zero, suc, Bool, cond, not, nat_lt, List, [], ◌∷◌, ◌++◌, map, length, take, drop, Some, None, refl, ap, ◌∙◌}
use Rattle.std.specs.List.{All, AllByRecursion, position, position_or_len, remove}
use Rattle.std.proofs.lemmas.List.{map-append}
use Rattle.std.proofs.lemmas.List.Elements.{recursion_from_All, All-append, All-take, All-drop}

-- the keys of the entries, as a map's contracts name them
abbrev pub keys_in : {K X : Type 0} → List (K × X) → List K
keys_in es = map (λ e. e.0) es

module _ {K X R : Type 0} (f : K × X → R) where
  module _ (test : R → Bool) (t : K → Bool) where
    first_agrees : (es : List (K × X)) → AllByRecursion (λ e. test (f e) ≡ t e.0) es → position_or_len test (map f es) ≡ position_or_len t (keys_in es)
    first_agrees [] a = refl
    first_agrees (e ∷ es) a = λ i. cond (not (a.0 i)) (1 + first_agrees es a.1 i) 0

    same_length : (es : List (K × X)) → length (map f es) ≡ length (keys_in es)
    same_length [] = refl
    same_length (e ∷ es) = ap suc (same_length es)

    -- a row stands where its key stands
    pub position_agrees : (es : List (K × X)) → All (λ e. test (f e) ≡ t e.0) es → position test (map f es) ≡ position t (keys_in es)
    position_agrees es a =
        let first = first_agrees es (recursion_from_All (λ e. test (f e) ≡ t e.0) es a) in
        λ i. cond (nat_lt (first i) (same_length es i)) (Some (first i)) None

-- no row stands anywhere where the test fails at each
pub position_of_none : {X R : Type 0} (f : X → R) (test : R → Bool) (xs : List X) → All (λ x. test (f x) ≡ false) xs → position test (map f xs) ≡ None
position_of_none {X} {R} f test xs a = by xs (recursion_from_All (λ x. test (f x) ≡ false) xs a)
  where
    first : (ys : List X) → AllByRecursion (λ x. test (f x) ≡ false) ys → position_or_len test (map f ys) ≡ length (map f ys)
    first [] h = refl
    first (y ∷ ys) h = ap (λ b. cond (not b) (1 + position_or_len test (map f ys)) 0) h.0 ∙ omega (arith, first ys h.1)

    by : (ys : List X) → AllByRecursion (λ x. test (f x) ≡ false) ys → position test (map f ys) ≡ None
    by ys h = let n = length (map f ys) in
        ap (λ k. cond (nat_lt k n) (Some k) None) (first ys h) ∙ ap (λ b. cond b (Some n) None) (le-ltb n n (omega arith))

map-take : {A B : Type 0} (f : A → B) (n : ℕ) (xs : List A) → map f (take n xs) ≡ take n (map f xs)
map-take f zero xs = refl
map-take f (suc n) [] = refl
map-take f (suc n) (x ∷ xs) = ap (λ l. f x ∷ l) (map-take f n xs)

map-drop : {A B : Type 0} (f : A → B) (n : ℕ) (xs : List A) → map f (drop n xs) ≡ drop n (map f xs)
map-drop f zero xs = refl
map-drop f (suc n) [] = refl
map-drop f (suc n) (x ∷ xs) = map-drop f n xs

-- an item that is taken out takes its row out
pub map-remove : {A B : Type 0} (f : A → B) (xs : List A) (i : ℕ) → map f (remove xs i) ≡ remove (map f xs) i
map-remove f xs i = map-append f (take i xs) (drop (suc i) xs) ∙ (λ j. map-take f i xs j ++ map-drop f (suc i) xs j)

-- two functions that agree on each item give the same list
pub map-agrees : {A B : Type 0} (f g : A → B) (xs : List A) → All (λ x. f x ≡ g x) xs → map f xs ≡ map g xs
map-agrees {A} {B} f g xs a = by xs (recursion_from_All (λ x. f x ≡ g x) xs a)
  where
    by : (ys : List A) → AllByRecursion (λ x. f x ≡ g x) ys → map f ys ≡ map g ys
    by [] h = refl
    by (y ∷ ys) h = λ i. h.0 i ∷ by ys h.1 i

-- a map of a map is one map
pub map-map : {A B C : Type 0} (g : B → C) (f : A → B) (xs : List A) → map g (map f xs) ≡ map (λ x. g (f x)) xs
map-map g f [] = refl
map-map g f (x ∷ xs) = ap (λ l. g (f x) ∷ l) (map-map g f xs)

-- a look-up in the rows finds what the map finds: h reads a row as g reads a value
module _ {K X R Y : Type 0} (f : K × X → R) (test : R → Bool) (t : K → Bool) (h : R → Y) (g : X → Y) (reads : (e : K × X) → h (f e) ≡ g e.1) where
  pub find_agrees : (es : List (K × X)) → All (λ e. test (f e) ≡ t e.0) es → option_map h (find test (map f es)) ≡ option_map g (lookup t es)
  find_agrees es a = by es (recursion_from_All (λ e. test (f e) ≡ t e.0) es a)
    where
      here : (e : K × X) (o : Option R) (p : Option X) → option_map h o ≡ option_map g p → (b : Bool) → option_map h (cond b (Some (f e)) o) ≡ option_map g (cond b (Some e.1) p)
      here e o p rest true = ap Some (reads e)
      here e o p rest false = rest

      by : (fs : List (K × X)) → AllByRecursion (λ e. test (f e) ≡ t e.0) fs → option_map h (find test (map f fs)) ≡ option_map g (lookup t fs)
      by [] a = refl
      by (e ∷ fs) a = ap (λ b. option_map h (cond b (Some (f e)) (find test (map f fs)))) a.0 ∙ here e (find test (map f fs)) (lookup t fs) (by fs a.1) (t e.0)

-- and nothing where the test fails at each
pub find_of_none : {X R : Type 0} (f : X → R) (test : R → Bool) (xs : List X) → All (λ x. test (f x) ≡ false) xs → find test (map f xs) ≡ None
find_of_none {X} {R} f test xs a = by xs (recursion_from_All (λ x. test (f x) ≡ false) xs a)
  where
    by : (ys : List X) → AllByRecursion (λ x. test (f x) ≡ false) ys → find test (map f ys) ≡ None
    by [] h = refl
    by (y ∷ ys) h = ap (λ b. cond b (Some (f y)) (find test (map f ys))) h.0 ∙ by ys h.1

-- what holds of each item holds of those that are left
pub All-remove : {X : Type 0} (P : X → Type 0) (xs : List X) (i : ℕ) → All P xs → All P (remove xs i)
All-remove P xs i a = All-append P (take i xs) (drop (suc i) xs) (All-take P i xs a) (All-drop P (suc i) xs a)
