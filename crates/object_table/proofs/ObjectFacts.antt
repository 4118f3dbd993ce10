-- For callers: an object keeps its number, over the rows that the contracts see.
use Rattle.std.proofs.Common.{◌≡◌, ℕ, ◌<◌, ◌++◌, ◌∷◌, [], List, Some, None, length, nat_eq, refl, ap, ◌∙◌, arith}
use Rattle.std.specs.Cmp.Lexicographic.{pointwise}
use Rattle.std.specs.List.{position}
use Rattle.std.proofs.lemmas.List.{map-append, length-map}
use Rattle.std.proofs.lemmas.List.Quantifiers.{position-Some}
use Rattle.nal_term.specs.TreeKeys.{same_bytes-Decides}
use Rattle.nal_term.proofs.ForCallers.{place_stays, place_of_new}
use Rattle.object_table.specs.Objects.{ObjectRow, names_of, number_of}

module _ (rows : List ObjectRow) (name : List ℕ) where
  pub number_within : (k : ℕ) → number_of rows name ≡ Some k → k < length rows
  number_within k at =
      let h = (position-Some (pointwise nat_eq name) (names_of rows) k [] at).0 in
      omega (arith, h, length-map rows (λ (r : ObjectRow). r.0))

  -- as another object goes last
  pub number_stays : (row : ObjectRow) (k : ℕ) → number_of rows name ≡ Some k → number_of (rows ++ row ∷ []) name ≡ Some k
  number_stays row k at = ap (position (pointwise nat_eq name)) (map-append (λ (r : ObjectRow). r.0) rows (row ∷ [])) ∙ place_stays (pointwise nat_eq name) (names_of rows) row.0 k at

  -- a new one has the number of those before it
  pub number_of_new : (owner : ℕ) → number_of rows name ≡ None → number_of (rows ++ (name, owner) ∷ []) name ≡ Some (length rows)
  number_of_new owner none =
      ap (position (pointwise nat_eq name)) (map-append (λ (r : ObjectRow). r.0) rows ((name, owner) ∷ []))
      ∙ place_of_new (pointwise nat_eq name) (names_of rows) name ((same_bytes-Decides name name).1 refl) none
      ∙ ap Some (length-map rows (λ (r : ObjectRow). r.0))
