use Rattle.proof_lines.specs.Lines.{line_tree, line_trees}
use Rattle.proof_check.proofs.Shapes.{one_form_at, one_missing}
use Rattle.proof_check.proofs.premises.has_form_at_one.Goals as goal

pub returns-in-Some-clause-form : goal.returns-in-Some-clause-form
returns-in-Some-clause-form g c =
    one_form_at (line_trees c.args.proof.now) (line_tree c.args.line.now) c.requires.form c.requires.one _ c.in-Some.ensures.formula _ c.has_form_of_one.ensures.form

pub returns-in-None-clause-form : goal.returns-in-None-clause-form
returns-in-None-clause-form g c =
    one_missing (line_trees c.args.proof.now) (line_tree c.args.line.now) c.requires.form c.requires.one c.in-None.ensures.formula
