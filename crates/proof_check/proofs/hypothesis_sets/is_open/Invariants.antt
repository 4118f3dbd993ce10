use Rattle.std.proofs.Common.{ℕ, ◌<◌}
use Rattle.proof_lines.specs.Lines.{line_trees}
use Rattle.nal_rules.specs.Faults.{RestsOn}
use Rattle.proof_check.proofs.hypothesis_sets.is_open.Given as goal

abbrev pub invariant-loop-hypothesis : goal.invariant-loop-hypothesis
invariant-loop-hypothesis l = (h : ℕ) → h < l.hypothesis → RestsOn (line_trees l.proof) l.number h → ⊥
