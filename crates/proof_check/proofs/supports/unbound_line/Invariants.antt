use Rattle.std.proofs.Common.{ℕ, ◌<◌, map}
use Rattle.nal_rules.specs.Asking.{binding_tree}
use Rattle.proof_lines.specs.Lines.{line_trees}
use Rattle.nal_rules.specs.Verdicts.{IsUnbound}
use Rattle.proof_check.proofs.supports.unbound_line.Given as goal

abbrev pub invariant-loop-number : goal.invariant-loop-number
invariant-loop-number l = (j : ℕ) → j < l.number → ¬ IsUnbound (line_trees l.proof) (map binding_tree l.bound) j
