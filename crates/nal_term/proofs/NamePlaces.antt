-- Names that are kept in a list, where each stands once: what the place of a name says.
use Rattle.std.proofs.Common.{◌≡◌, ℕ, ◌<◌, false, List, [], length, Some, None, nat_eq, slice_get, get_or, Contains, refl, sym, ap, ◌∙◌, true≢false}
use Rattle.std.specs.Cmp.Lexicographic.{nat_list_eq_equiv}
use Rattle.std.specs.List.{position, IsDistinct}
use Rattle.std.proofs.lemmas.List.Quantifiers.{position-Some}
use Rattle.std.proofs.lemmas.Option.{slice_get-get_or}
use Rattle.nal_term.specs.TreeKeys.{same_bytes, same_bytes-Decides}
use Rattle.nal_term.proofs.Places.{fails_at, place_of_item, same_item}

-- the name that is at its place
pub name_at_place : (names : List (List ℕ)) (name : List ℕ) (k : ℕ) → position (same_bytes name) names ≡ Some k → slice_get names k ≡ Some name
name_at_place names name k p =
    let at = position-Some (same_bytes name) names k [] p in
    slice_get-get_or names k [] at.0 ∙ ap Some (sym ((same_bytes-Decides name (get_or names k [])).0 at.1))

-- a name without a place is none of the names
pub name_without_place : (names : List (List ℕ)) (name : List ℕ) → position (same_bytes name) names ≡ None → ¬ Contains names name
name_without_place names name p held =
    let fails = fails_at (same_bytes name) names held.0 name held.1 p in
    true≢false (sym ((same_bytes-Decides name name).1 refl) ∙ sym (ap (same_bytes name) held.2) ∙ fails)

-- a name that has no place is not the one at any place
pub other_name : (names : List (List ℕ)) (name : List ℕ) (q : ℕ) → position (same_bytes name) names ≡ None → q < length names → same_bytes name (get_or names q []) ≡ false
other_name names name q none within = fails_at (same_bytes name) names q [] within none

module _ (names : List (List ℕ)) (distinct : IsDistinct same_bytes names) where
  -- the name at a place has that place
  pub place_of_name : (i : ℕ) → i < length names → position (same_bytes (get_or names i [])) names ≡ Some i
  place_of_name = place_of_item same_bytes nat_list_eq_equiv names distinct []

  -- so a name is the one at a place exactly where its own place is that one
  pub same_place : (name : List ℕ) (p q : ℕ) → position (same_bytes name) names ≡ Some p → q < length names → same_bytes name (get_or names q []) ≡ nat_eq p q
  same_place = same_item same_bytes nat_list_eq_equiv names distinct []
