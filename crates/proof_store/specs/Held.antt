-- What a store keeps of its cases: keys with the place of the operation in a list of names.
use Rattle.std.specs.Prelude.{ℕ, List, [], Option, slice_index_or}
use Rattle.proof_lines.specs.declared.lines.Line.{Line}
use Rattle.proof_store.specs.Cases.{HeldCase}

abbrev pub Entry : Type 0
Entry = (ℕ × ℕ × ℕ) × Option (List Line)

-- the case that an entry stands for
abbrev pub held_case : List (List ℕ) → Entry → HeldCase
held_case ops e = (e.0.0, slice_index_or ops e.0.1 [], e.0.2, e.1)
