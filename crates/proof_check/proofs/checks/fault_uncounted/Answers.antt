use Rattle.nal_term.specs.Trees.{formula_tree}
use Rattle.proof_lines.specs.Lines.{line_trees}
use Rattle.proof_check.proofs.Refuted.{fault_told}
use Rattle.proof_check.proofs.checks.fault_uncounted.Goals as goal

pub returns : goal.returns
returns g c = fault_told (line_trees c.args.proof.now) (formula_tree c.args.goal.now) c.args.number c.line_fault.result c.line_fault.ensures.fault
