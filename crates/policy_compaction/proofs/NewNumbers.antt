-- The new numbers of labels grow with the old ones, by one at each entry that is kept.
use Rattle.std.proofs.Common.{◌≡◌, ◌≤◌, ◌+◌, ℕ, Bool, true, false, cond, List, [], ◌∷◌, filter, length, nat_le, refl, ap, ◌∙◌, arith}
use Rattle.std.proofs.lemmas.Bool.{lt-leb, le-leb, leb-true}
use Rattle.policy_history.specs.Events.{EntryTree}
use Rattle.policy_compaction.specs.Kept.{Numbered, kept, kept_from, matters, new_number}
use Rattle.policy_compaction.proofs.RowFilters.{filter_by, wider}

-- it is among the first k
abbrev IsEarly : ℕ → Numbered → Bool
IsEarly k x = nat_le x.0 k

pub new_grows : (ks : List Numbered) (a b : ℕ) → a ≤ b → new_number ks a ≤ new_number ks b
new_grows ks a b low = wider (IsEarly a) (IsEarly b) (λ x early. le-leb x.0 b (omega (arith, leb-true x.0 a early, low))) ks

-- what is kept behind the first n has greater numbers
none_early : (n k : ℕ) (es : List EntryTree) → k ≤ n → filter (IsEarly k) (kept_from n es) ≡ []
none_early n k [] low = refl
none_early n k (e ∷ es) low = of (matters (n + 1) e es) (none_early (n + 1) k es (omega (arith, low)))
  where
    of : (b : Bool) → filter (IsEarly k) (kept_from (n + 1) es) ≡ [] → filter (IsEarly k) (cond b ((n + 1, e) ∷ kept_from (n + 1) es) (kept_from (n + 1) es)) ≡ []
    of true rest = filter_by (IsEarly k) (n + 1, e) (kept_from (n + 1) es) false (lt-leb (n + 1) k (omega (arith, low))) ∙ rest
    of false rest = rest

-- at each entry that is kept one more, and else none
abbrev pub Counts : List Numbered → ℕ → List EntryTree → Type 0
Counts ks n [] = Unit {0}
Counts ks n (e ∷ es) = (new_number ks (n + 1) ≡ new_number ks n + cond (matters (n + 1) e es) 1 0) × Counts ks (n + 1) es

module _ (ks : List Numbered) where
  -- c entries are kept of the first n
  abbrev IsBehind : ℕ → ℕ → List EntryTree → Type 0
  IsBehind c n es = (k : ℕ) → n ≤ k → new_number ks k ≡ c + length (filter (IsEarly k) (kept_from n es))

  now : (c n : ℕ) (es : List EntryTree) → IsBehind c n es → new_number ks n ≡ c
  now c n es behind = let here = behind n (omega arith) in let none = ap (λ (xs : List Numbered). length xs) (none_early n n es (omega arith)) in omega (arith, here, none)

  counts_from : (c n : ℕ) (es : List EntryTree) → IsBehind c n es → Counts ks n es
  counts_from c n [] behind = tt
  counts_from c n (e ∷ es) behind = of (matters (n + 1) e es) behind (λ d. counts_from d (n + 1) es)
    where
      of : (b : Bool) → ((k : ℕ) → n ≤ k → new_number ks k ≡ c + length (filter (IsEarly k) (cond b ((n + 1, e) ∷ kept_from (n + 1) es) (kept_from (n + 1) es))))
          → ((d : ℕ) → IsBehind d (n + 1) es → Counts ks (n + 1) es) → (new_number ks (n + 1) ≡ new_number ks n + cond b 1 0) × Counts ks (n + 1) es
      of true behind rest =
          let next : IsBehind (c + 1) (n + 1) es = λ k low.
          let all = behind k (omega (arith, low)) in
          let one = ap (λ (xs : List Numbered). length xs) (filter_by (IsEarly k) (n + 1, e) (kept_from (n + 1) es) true (le-leb (n + 1) k low)) in
          omega (arith, all, one) in
          let before = behind n (omega arith) in
          let none = ap (λ (xs : List Numbered). length xs) (filter_by (IsEarly n) (n + 1, e) (kept_from (n + 1) es) false (lt-leb (n + 1) n (omega arith)) ∙ none_early (n + 1) n es (omega arith)) in
          let later = now (c + 1) (n + 1) es next in
          (omega (arith, later, before, none), rest (c + 1) next)
      of false behind rest =
          let next : IsBehind c (n + 1) es = λ k low. behind k (omega (arith, low)) in
          let before = behind n (omega arith) in
          let none = ap (λ (xs : List Numbered). length xs) (none_early (n + 1) n es (omega arith)) in
          let later = now c (n + 1) es next in
          (omega (arith, later, before, none), rest c next)

-- from the first entry on
pub counts : (es : List EntryTree) → Counts (kept es) 0 es
counts es = counts_from (kept es) 0 0 es (λ k low. omega arith)

pub none_new : (es : List EntryTree) → new_number (kept es) 0 ≡ 0
none_new es = ap (λ (xs : List Numbered). length xs) (none_early 0 0 es (omega arith))
