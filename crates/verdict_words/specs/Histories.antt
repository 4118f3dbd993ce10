-- Histories: lists of entries that grow at their end.
use Rattle.std.specs.Prelude.{◌≡◌, ℕ, ◌≤◌, ◌==◌, List, ◌∷◌, ◌++◌, length, filter}

module _ {E : Type 0} where
  -- the first history begins the second
  abbrev pub IsPrefix : List E → List E → Type 0
  IsPrefix first whole = (more : List E) × (whole ≡ first ++ more)

  -- F holds of each entry behind the first `from`, and of the history before it
  abbrev pub EachFrom : ℕ → List E → (List E → E → Type 0) → Type 0
  EachFrom from history F = (before : List E) (entry : E) (after : List E) → history ≡ before ++ entry ∷ after → from ≤ length before → F before entry

  -- no entry behind the first `at` touches the region
  abbrev pub Untouched : (List E → E → ℕ → Type 0) → List E → ℕ → ℕ → Type 0
  Untouched touches history at region = EachFrom at history (λ before entry. ¬ touches before entry region)

  -- the entries of one session, in order
  abbrev pub own : (E → ℕ) → List E → ℕ → List E
  own session history s = filter (λ entry. session entry == s) history
