use Rattle.std.proofs.Common.{◌≡◌, take, map}
use Rattle.proof_lines.specs.Lines.{line_trees}
use Rattle.nal_rules.specs.Asking.{binding_tree}
use Rattle.goal_store.specs.GoalRows.{ports}
use Rattle.policy_history.specs.Judged.{bindings_for}
use Rattle.policy_history.proofs.cases.bindings.Given as goal

abbrev pub invariant-loop-line : goal.invariant-loop-line
invariant-loop-line l = map binding_tree l.bound ≡ bindings_for (ports l.store) (line_trees (take l.line-index l.lines))
