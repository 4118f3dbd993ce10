use Rattle.std.proofs.Common.{◌≡◌, ◌∙◌, length}
use Rattle.proof_lines.specs.Lines.{line_tree, line_trees}
use Rattle.proof_check.proofs.Shapes.{form_at, no_form_at, five_known, five_unknown_first, five_unknown_second, five_unknown_third, five_unknown_fourth, five_unknown_fifth}
use Rattle.proof_check.proofs.premises.has_form_at_five.Goals as goal

pub returns-in_default-clause-form : goal.returns-in_default-clause-form
returns-in_default-clause-form g c =
    let size : length c.args.line.now.refs ≡ 5 = c.requires.form.references ∙ c.requires.five in
    no_form_at (line_trees c.args.proof.now) (line_tree c.args.line.now) (five_unknown_first (line_trees c.args.proof.now) c.args.line.now.refs size c.in_default.ensures.formula)

pub returns-in_default-premise_at-clause-form : goal.returns-in_default-premise_at-clause-form
returns-in_default-premise_at-clause-form g c =
    let size : length c.args.line.now.refs ≡ 5 = c.requires.form.references ∙ c.requires.five in
    no_form_at (line_trees c.args.proof.now) (line_tree c.args.line.now) (five_unknown_second (line_trees c.args.proof.now) c.args.line.now.refs size _ c.in-Some.ensures.formula c.in_default-premise_at.ensures.formula)

pub returns-in_default-premise_at-2-clause-form : goal.returns-in_default-premise_at-2-clause-form
returns-in_default-premise_at-2-clause-form g c =
    let size : length c.args.line.now.refs ≡ 5 = c.requires.form.references ∙ c.requires.five in
    no_form_at (line_trees c.args.proof.now) (line_tree c.args.line.now) (five_unknown_third (line_trees c.args.proof.now) c.args.line.now.refs size _ _ c.in-Some.ensures.formula c.in-Some-premise_at.ensures.formula c.in_default-premise_at-2.ensures.formula)

pub returns-in_default-premise_at-3-clause-form : goal.returns-in_default-premise_at-3-clause-form
returns-in_default-premise_at-3-clause-form g c =
    let size : length c.args.line.now.refs ≡ 5 = c.requires.form.references ∙ c.requires.five in
    no_form_at (line_trees c.args.proof.now) (line_tree c.args.line.now) (five_unknown_fourth (line_trees c.args.proof.now) c.args.line.now.refs size _ _ _ c.in-Some.ensures.formula c.in-Some-premise_at.ensures.formula c.in-Some-premise_at-2.ensures.formula c.in_default-premise_at-3.ensures.formula)

pub returns-in_default-premise_at-4-clause-form : goal.returns-in_default-premise_at-4-clause-form
returns-in_default-premise_at-4-clause-form g c =
    let size : length c.args.line.now.refs ≡ 5 = c.requires.form.references ∙ c.requires.five in
    no_form_at (line_trees c.args.proof.now) (line_tree c.args.line.now) (five_unknown_fifth (line_trees c.args.proof.now) c.args.line.now.refs size _ _ _ _ c.in-Some.ensures.formula c.in-Some-premise_at.ensures.formula c.in-Some-premise_at-2.ensures.formula c.in-Some-premise_at-3.ensures.formula c.in_default-premise_at-4.ensures.formula)

pub returns-clause-form : goal.returns-clause-form
returns-clause-form g c =
    let size : length c.args.line.now.refs ≡ 5 = c.requires.form.references ∙ c.requires.five in
    form_at (line_trees c.args.proof.now) (line_tree c.args.line.now) _ (five_known (line_trees c.args.proof.now) c.args.line.now.refs size _ _ _ _ _ c.in-Some.ensures.formula c.in-Some-premise_at.ensures.formula c.in-Some-premise_at-2.ensures.formula c.in-Some-premise_at-3.ensures.formula c.in-Some-premise_at-4.ensures.formula) _ c.has_form_of_five.ensures.form
