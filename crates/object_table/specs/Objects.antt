-- The objects of the service as a list of rows: the place of a row is the number of its object.
use Rattle.std.specs.Prelude.{ℕ, List, Option, map, nat_eq}
use Rattle.std.specs.List.{position}
use Rattle.std.specs.Option.{option_map}
use Rattle.std.specs.List.{slice_get}
use Rattle.std.specs.Cmp.Lexicographic.{pointwise}

-- an object's name, as its bytes, and the number of the principal that owns it
abbrev pub ObjectRow : Type 0
ObjectRow = List ℕ × ℕ

-- what contracts see of a table: its rows, and how many more it has memory for
pub record Objects : Type 0 where
  pub rows : List ObjectRow
  pub spare : ℕ

-- the names of the objects, in the order of their numbers
abbrev pub names_of : List ObjectRow → List (List ℕ)
names_of rows = map (λ r. r.0) rows

-- the number of the object with this name
abbrev pub number_of : List ObjectRow → List ℕ → Option ℕ
number_of rows name = position (pointwise nat_eq name) (names_of rows)

-- the owner of the object with this number
abbrev pub owner_of : List ObjectRow → ℕ → Option ℕ
owner_of rows number = option_map (λ r. r.1) (slice_get rows number)
