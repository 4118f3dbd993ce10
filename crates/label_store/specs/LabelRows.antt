-- The labels of the service as a list of rows.
use Rattle.std.specs.Prelude.{ℕ, List, Bool, ◌&&◌, Option, map, filter, nat_eq}
use Rattle.std.specs.List.{position, find, list_any}
use Rattle.std.specs.Option.{option_map}
use Rattle.nal_term.specs.declared.formulas.Formula.{Formula}
use Rattle.nal_term.specs.Trees.{FormulaTree, formula_tree}
use Rattle.nal_term.specs.TreeKeys.{same_formulas}

-- what a store holds of a label: its number, the principal that holds it, and the formula
abbrev pub HeldLabel : Type 0
HeldLabel = ℕ × ℕ × Formula

-- what contracts see of a store: the labels that it holds, and how many more it has memory for
pub record Labels : Type 0 where
  pub held : List HeldLabel
  pub spare : ℕ

-- a row: the number, the holder and the label
abbrev pub LabelRow : Type 0
LabelRow = ℕ × ℕ × FormulaTree

abbrev pub label_row : HeldLabel → LabelRow
label_row l = (l.0, l.1, formula_tree l.2)

-- the rows of a store
abbrev pub rows : Labels → List LabelRow
rows labels = map label_row labels.held

-- the row has this number
abbrev pub has_number : ℕ → LabelRow → Bool
has_number number row = nat_eq number row.0

-- the place of the row with this number, from 0
abbrev pub label_place : List LabelRow → ℕ → Option ℕ
label_place rows number = position (has_number number) rows

-- the holder of the label with this number
abbrev pub holder_of : List LabelRow → ℕ → Option ℕ
holder_of rows number = option_map (λ (row : LabelRow). row.1) (find (has_number number) rows)

-- a row has this holder and this label
abbrev pub is_held : List LabelRow → ℕ → FormulaTree → Bool
is_held rows holder label = list_any (λ (row : LabelRow). nat_eq holder row.1 && same_formulas label row.2) rows

-- the labels of a holder, in the order of the rows
abbrev pub labels_of : List LabelRow → ℕ → List FormulaTree
labels_of rows holder = map (λ (row : LabelRow). row.2) (filter (λ (row : LabelRow). nat_eq holder row.1) rows)
