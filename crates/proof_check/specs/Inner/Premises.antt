-- The formulas to which a line refers.
use Rattle.std.specs.Prelude.{◌≡◌, ℕ, List, Option, Some, slice_get}
use Rattle.std.specs.Option.{option_and_then}
use Rattle.nal_term.specs.Trees.{FormulaTree}
use Rattle.proof_lines.specs.Lines.{LineTree}
use Rattle.nal_rules.specs.Faults.{formula_at, formulas_at, HasForm}

-- the formula of the line that the reference at this place names, counted from 0
abbrev pub premise_at : List LineTree → List ℕ → ℕ → Option FormulaTree
premise_at lines refs place = option_and_then (λ k. formula_at lines k) (slice_get refs place)

-- the references name lines, and the line has the form of its rule
abbrev pub HasFormAt : List LineTree → LineTree → Type 0
HasFormAt lines l =
    (premises : List FormulaTree) × (formulas_at lines l.refs ≡ Some premises) × HasForm l.rule premises l.term l.formula
