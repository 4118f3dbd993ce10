use Rattle.proof_lines.specs.Lines.{line_trees}
use Rattle.nal_rules.specs.Asking.{case_tree}
use Rattle.case_verdict.proofs.Judged.{affirmed, refused}
use Rattle.case_verdict.proofs.verdicts.verdict.Goals as goal

pub returns-in-Err : goal.returns-in-Err
returns-in-Err c = c.in-Err.ensures.denied.verdict c.args.answers.now

pub returns-in-Some : goal.returns-in-Some
returns-in-Some c = refused (case_tree c.args.case.now) (line_trees c.in-Ok.proof.now) c.args.answers.now c.in-Some.line c.in-Ok.ensures.open c.in-Some.ensures

pub returns-in-None : goal.returns-in-None
returns-in-None c = affirmed (case_tree c.args.case.now) (line_trees c.in-Ok.proof.now) c.args.answers.now c.in-Ok.ensures.open c.in-None.ensures
