-- How the rows of a table change.
use Rattle.std.specs.Prelude.{List, [], ◌∷◌, Bool, if◌then◌else◌}

module _ {R : Type 0} where
  -- the first row that passes is replaced in its place; where none does, the new one goes last
  abbrev pub put : (R → Bool) → R → List R → List R
  put passes row [] = row ∷ []
  put passes row (x ∷ xs) = if passes x then row ∷ xs else x ∷ put passes row xs

  -- the first row that passes is changed in its place
  abbrev pub alter : (R → Bool) → (R → R) → List R → List R
  alter passes change [] = []
  alter passes change (x ∷ xs) = if passes x then change x ∷ xs else x ∷ alter passes change xs

  -- the first row that passes goes, and the others close up
  abbrev pub take_out : (R → Bool) → List R → List R
  take_out passes [] = []
  take_out passes (x ∷ xs) = if passes x then xs else x ∷ take_out passes xs
