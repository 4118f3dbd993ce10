use Rattle.std.proofs.Common.{ℕ, ◌+◌, ◌*◌, ◌<◌, ◌≤◌, length}
use Rattle.nal_term.specs.Size.{node_count}
use Rattle.nal_term.specs.Trees.{formula_tree}
use Rattle.proof_lines.specs.Lines.{line_trees}
use Rattle.proof_check.specs.Sizes.{greatest_in, line_steps}
use Rattle.proof_check.specs.Inner.Sound.{IsSoundAt}
use Rattle.proof_check.proofs.checks.lowest_fault.Given as goal

abbrev pub invariant-loop-number : goal.invariant-loop-number
invariant-loop-number g l = record {
  sound : (j : ℕ) → j < l.number → IsSoundAt (line_trees l.proof) (formula_tree l.goal) j;
  some : 0 < l.number;
  least : l.initial.steps ≤ l.steps;
  most : l.steps + line_steps (length l.proof) (greatest_in (line_trees l.proof)) ≤ l.initial.steps + l.number * line_steps (length l.proof) (greatest_in (line_trees l.proof));
  goal : 0 < length l.proof → length l.proof < l.number → l.initial.steps + node_count (formula_tree l.goal) ≤ l.steps;
}
