use Rattle.std.proofs.Common.{◌≡◌, ◌≤◌, drop}
use Rattle.proof_text.specs.Places.{column_from, column_of}
use Rattle.proof_text.proofs.columns.segment_column.Given as goal

abbrev pub invariant-loop-place : goal.invariant-loop-place
invariant-loop-place l =
    (column_from l.column l.cuts_left (drop l.place l.text) ≡ column_of l.segment l.text) × (l.column ≤ l.place)
