-- The order in which records are judged.
use Rattle.std.specs.Prelude.{◌≡◌, ◌<◌, ℕ, List, Contains, All, Some, length, slice_get}
use Rattle.std.specs.List.Sorted.{IsNonDecreasingBy}
use Rattle.audit_check.specs.declared.audits.Place.{Place}
use Rattle.audit_check.specs.declared.records.Record.{Record}

-- the place is that of a record, with the record's point
abbrev pub IsPlaceOf : List Record → Place → Type 0
IsPlaceOf records place = (r : Record) × (slice_get records place.index ≡ Some r) × (place.at ≡ r.at)

-- each record has its place among these, each of these is a record's, and none is behind one of a greater point
pub record AreInOrder (records : List Record) (places : List Place) : Type 0 where
  pub complete : (k : ℕ) → k < length records → (place : Place) × Contains places place × (place.index ≡ k)
  pub each : All (IsPlaceOf records) places
  pub rising : IsNonDecreasingBy (λ (p : Place). p.at) places
