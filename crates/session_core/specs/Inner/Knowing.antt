-- The cases that a session knows, with their places.
use Rattle.std.specs.Prelude.{◌++◌, ◌<◌, ℕ, List, [], ◌∷◌, ◌&&◌, Bool, length, map, nat_lt, slice_index_or, Option, Some, None, if◌then◌else◌}
use Rattle.std.specs.List.{All, IsDistinct}
use Rattle.nal_term.specs.TreeKeys.{same_bytes}
use Rattle.verdict_words.specs.declared.places.CasePlace.{CasePlace}
use Rattle.session_core.specs.Standing.{Triple, knows, most_known}

-- an operation, the name of an object, and the place of the case
pub record KnownRow : Type 0 where
  pub op : List ℕ
  pub object : List ℕ
  pub place : CasePlace

-- the cases, and how many more there is memory for
pub record KnownValue : Type 0 where
  pub rows : List KnownRow
  pub spare : ℕ

-- a case as it is kept: the places of its two names in their lists, and its own
abbrev pub KnownEntry : Type 0
KnownEntry = (ℕ × ℕ) × CasePlace

-- the row that an entry stands for, the operations and the objects being these
abbrev pub row_of : List (List ℕ) → List (List ℕ) → KnownEntry → KnownRow
row_of ops objects e = record { op = slice_index_or ops e.0.0 []; object = slice_index_or objects e.0.1 []; place = e.1 }

-- both names of an entry are there
abbrev pub IsNamed : List (List ℕ) → List (List ℕ) → KnownEntry → Type 0
IsNamed ops objects e = (e.0.0 < length ops) × (e.0.1 < length objects)

-- each name stands once, and both names of each entry are there
pub record AreHeld (ops objects : List (List ℕ)) (es : List KnownEntry) : Type 0 where
  pub distinct_ops : IsDistinct same_bytes ops
  pub distinct_objects : IsDistinct same_bytes objects
  pub named : All (IsNamed ops objects) es

-- whether the row is of this operation and object
abbrev pub is_row_of : KnownRow → List ℕ → List ℕ → Bool
is_row_of row op object = same_bytes row.op op && same_bytes row.object object

-- the place of the first row of this operation and object
abbrev pub place_among : List KnownRow → List ℕ → List ℕ → Option CasePlace
place_among [] op object = None
place_among (row ∷ rows) op object = if is_row_of row op object then Some row.place else place_among rows op object

-- the operations and objects of the rows
abbrev pub triples_of : List KnownRow → List Triple
triples_of rows = map (λ (row : KnownRow). (row.op, row.object)) rows

-- whether the case of this operation and object is known
abbrev pub knows_row : List KnownRow → List ℕ → List ℕ → Bool
knows_row rows op object = knows (triples_of rows) op object

-- what is known of cases after the case in this place was judged, or one without a number
abbrev pub joined_rows : List KnownRow → List ℕ → List ℕ → Option CasePlace → List KnownRow
joined_rows rows op object None = rows
joined_rows rows op object (Some place) =
    if knows_row rows op object then rows
    else (if nat_lt (length rows) most_known then rows ++ record { op = op; object = object; place = place } ∷ [] else rows)
