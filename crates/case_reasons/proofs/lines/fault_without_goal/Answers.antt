use Rattle.proof_lines.specs.Lines.{line_tree, line_trees}
use Rattle.case_reasons.proofs.Faults.{fault_any, last_line}
use Rattle.case_reasons.proofs.lines.fault_without_goal.Goals as goal

pub returns : goal.returns
returns c =
    let lines = c.args.proof.now in
    let last = c.in_ok-last.last.now in
    fault_any (line_trees lines) (line_tree last) (last_line lines c.count.result last c.count.ensures.count c.in_ok-last.ensures.zero c.in_ok-last.ensures.value) c.args.number c.fault_of_line.result c.fault_of_line.ensures
