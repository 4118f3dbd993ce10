-- The proofs of the service as a list of rows: the place of a row is its case number.
use Rattle.std.specs.Prelude.{ℕ, List, Bool, ◌&&◌, Option, map, nat_eq, slice_get}
use Rattle.std.specs.List.{position}
use Rattle.std.specs.Option.{option_map, option_and_then}
use Rattle.std.specs.Cmp.Lexicographic.{pointwise}
use Rattle.proof_lines.specs.declared.lines.Line.{Line}
use Rattle.proof_lines.specs.Lines.{LineTree, line_trees}

-- what a store holds of a case: its subject, operation and object, and its proof, if it has one
abbrev pub HeldCase : Type 0
HeldCase = ℕ × List ℕ × ℕ × Option (List Line)

-- what contracts see of a store: the cases that it holds, and how many more it has memory for
pub record Cases : Type 0 where
  pub held : List HeldCase
  pub spare : ℕ

-- a row: the subject, the operation, the object and the proof, by its lines, if there is one
abbrev pub CaseRow : Type 0
CaseRow = ℕ × List ℕ × ℕ × Option (List LineTree)

abbrev pub case_row : HeldCase → CaseRow
case_row c = (c.0, c.1, c.2, option_map line_trees c.3)

-- the rows of a store, in the order of their case numbers
abbrev pub rows : Cases → List CaseRow
rows cases = map case_row cases.held

-- the row is the one of this subject, operation and object
abbrev pub is_case : ℕ → List ℕ → ℕ → CaseRow → Bool
is_case subject op object row = (nat_eq subject row.0 && pointwise nat_eq op row.1) && nat_eq object row.2

-- the case number of a subject, an operation and an object
abbrev pub number_of : List CaseRow → ℕ → List ℕ → ℕ → Option ℕ
number_of rows subject op object = position (is_case subject op object) rows

-- the proof of the case with this number; a case without one counts as none
abbrev pub proof_of : List CaseRow → ℕ → Option (List LineTree)
proof_of rows number = option_and_then (λ (row : CaseRow). row.3) (slice_get rows number)
