-- What is known of a reply that is read.
use Rattle.std.specs.Prelude.{◌≡◌, ◌*◌, ℕ, Option, Some, None}

-- so many bytes hold this many numbers, of which there is any
abbrev pub HoldNumbers : Option ℕ → ℕ → Type 0
HoldNumbers None size = ⊥
HoldNumbers (Some count) size = size ≡ 8 * count
