use Rattle.std.proofs.Common.{◌≡◌, ◌+◌, ◌<◌, ◌≤◌, length}
use Rattle.nal_term.specs.Size.{node_count}
use Rattle.nal_term.specs.Trees.{formula_tree}
use Rattle.proof_lines.specs.Lines.{line_tree, line_trees}
use Rattle.nal_rules.specs.declared.verdicts.Fault.{Fault}
use Rattle.nal_rules.specs.Faults.{fault_number}
use Rattle.proof_check.specs.Inner.Costs.{steps_before}
use Rattle.proof_check.specs.Sizes.{greatest_in}
use Rattle.proof_check.specs.Inner.Sound.{IsMet}
use Rattle.proof_check.proofs.faults.line_fault.Given as goal

abbrev pub invariant-loop-place : goal.invariant-loop-place
invariant-loop-place g l = record {
  met : (fault : Fault) → fault_number fault ≤ l.place → IsMet (line_trees l.proof) (formula_tree l.goal) l.number (line_tree l.line) fault;
  least : l.initial.steps ≤ l.steps;
  most : l.steps ≤ l.initial.steps + steps_before (length l.proof) (greatest_in (line_trees l.proof)) l.place;
  goal : 11 < l.place → l.number ≡ length l.proof → l.initial.steps + node_count (formula_tree l.goal) ≤ l.steps;
}
