use Rattle.proof_lines.specs.Lines.{line_tree, line_trees}
use Rattle.proof_check.proofs.Shapes.{two_form_at, second_missing, first_missing}
use Rattle.proof_check.proofs.premises.has_form_at_two.Goals as goal

pub returns-clause-form : goal.returns-clause-form
returns-clause-form g c =
    two_form_at (line_trees c.args.proof.now) (line_tree c.args.line.now) c.requires.form c.requires.two _ _ c.in-Some.ensures.formula c.in-Some-premise_at.ensures.formula _ c.has_form_of_two.ensures.form

pub returns-in_default-clause-form : goal.returns-in_default-clause-form
returns-in_default-clause-form g c =
    first_missing (line_trees c.args.proof.now) (line_tree c.args.line.now) c.requires.form c.requires.two c.in_default.ensures.formula

pub returns-in_default-premise_at-clause-form : goal.returns-in_default-premise_at-clause-form
returns-in_default-premise_at-clause-form g c =
    second_missing (line_trees c.args.proof.now) (line_tree c.args.line.now) c.requires.form c.requires.two _ c.in-Some.ensures.formula c.in_default-premise_at.ensures.formula
