-- For callers: a case keeps its number, over the rows that the contracts see.
use Rattle.std.proofs.Common.{◌≡◌, ℕ, ◌<◌, ◌++◌, ◌∷◌, [], List, Option, Some, None, length, get_or, slice_set, nat_eq, ◌&&◌}
use Rattle.std.specs.Cmp.Lexicographic.{pointwise}
use Rattle.std.proofs.lemmas.List.Quantifiers.{position-Some}
use Rattle.nal_term.proofs.ForCallers.{place_stays, place_stays_set}
use Rattle.proof_lines.specs.Lines.{LineTree}
use Rattle.proof_store.specs.Cases.{CaseRow, is_case, number_of}
use Rattle.proof_store.proofs.HeldCases.{same_case}

nothing : CaseRow
nothing = (0, [], 0, None)

module _ (rows : List CaseRow) (subject : ℕ) (op : List ℕ) (object : ℕ) where
  pub number_within : (k : ℕ) → number_of rows subject op object ≡ Some k → k < length rows
  number_within k at = (position-Some (is_case subject op object) rows k nothing at).0

  -- as another case goes last
  pub number_stays : (row : CaseRow) (k : ℕ) → number_of rows subject op object ≡ Some k → number_of (rows ++ row ∷ []) subject op object ≡ Some k
  number_stays row k at = place_stays (is_case subject op object) rows row k at

  -- and as a case has another proof or none
  pub number_stays_set : (subject' : ℕ) (op' : List ℕ) (object' k : ℕ) (proof : Option (List LineTree)) → number_of rows subject' op' object' ≡ Some k
      → number_of (slice_set rows k (subject', op', object', proof)) subject op object ≡ number_of rows subject op object
  number_stays_set subject' op' object' k proof at =
      let there = same_case subject' op' object' (get_or rows k nothing) (position-Some (is_case subject' op' object') rows k nothing at).1 in
      place_stays_set (is_case subject op object) rows k (subject', op', object', proof) nothing
      (λ i. (nat_eq subject (there.0 i) && pointwise nat_eq op (there.1 i)) && nat_eq object (there.2 i))
