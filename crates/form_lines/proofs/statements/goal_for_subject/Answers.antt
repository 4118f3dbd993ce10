use Rattle.nal_term.specs.Trees.{formula_tree}
use Rattle.nal_subst.proofs.ForCallers.{name_defined}
use Rattle.form_lines.proofs.statements.goal_for_subject.Goals as goal

pub unreachable-requires : goal.unreachable-requires
unreachable-requires c =
    name_defined c.in-Some.variable c.in_ok-copy.field-0 (formula_tree c.args.goal.now) (c.substitute.ensures.capture.0 (rw c.in-Err-Capture.field-0-is at c.in-Err-Capture.is))
