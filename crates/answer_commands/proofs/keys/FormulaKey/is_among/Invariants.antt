use Rattle.std.proofs.Common.{ℕ, ◌<◌, ◌≡◌, slice_index_or}
use Rattle.answer_commands.specs.declared.keys.FormulaKey.{FormulaKey}
use Rattle.answer_commands.specs.Inner.Forms.{tree_of}
use Rattle.answer_commands.proofs.keys.FormulaKey.is_among.Given as goal

abbrev pub invariant-loop-index : goal.invariant-loop-index
invariant-loop-index l = (k : ℕ) (d : FormulaKey) → k < l.index → tree_of (slice_index_or l.keys k d) ≡ tree_of l.self → ⊥
