-- What always holds of what a store keeps.
use Rattle.std.specs.Prelude.{ℕ, ◌<◌, ◌≤◌, List, length}
use Rattle.std.specs.List.{All, IsDistinct}
use Rattle.nal_term.specs.TreeKeys.{same_bytes}
use Rattle.proof_store.specs.Held.{Entry}

-- each entry's operation is one of the names
abbrev pub HasPlaces : List (List ℕ) → List Entry → Type 0
HasPlaces ops es = All (λ (e : Entry). e.0.1 < length ops) es

-- each name stands once, each entry's operation is one of them, and there are no more entries than there may be
pub record AreHeld (ops : List (List ℕ)) (es : List Entry) : Type 0 where
  pub distinct : IsDistinct same_bytes ops
  pub places : HasPlaces ops es
  pub bound : length es ≤ 262144
