use Rattle.std.proofs.Common.{refl}
use Rattle.proof_lines.specs.Lines.{line_tree, line_trees}
use Rattle.proof_check.proofs.Shapes.{captured_at, no_form_without, not_captured_without, one_form_at}
use Rattle.proof_check.proofs.substitutions.match_at.Goals as goal

pub returns-in-Some-clause-captured : goal.returns-in-Some-clause-captured
returns-in-Some-clause-captured g c =
    captured_at (line_trees c.args.proof.now) (line_tree c.args.line.now) c.requires.form c.requires.one _ c.in-Some.ensures.formula _ c.match_from.ensures.captured

pub returns-in-Some-clause-formed : goal.returns-in-Some-clause-formed
returns-in-Some-clause-formed g c =
    one_form_at (line_trees c.args.proof.now) (line_tree c.args.line.now) c.requires.form c.requires.one _ c.in-Some.ensures.formula _ c.match_from.ensures.formed

pub returns-in-None-clause-captured : goal.returns-in-None-clause-captured
returns-in-None-clause-captured g c =
    (λ e. absurd (cc e), λ w. absurd (not_captured_without (line_trees c.args.proof.now) (line_tree c.args.line.now) c.requires.form c.requires.one c.in-None.ensures.formula w))

pub returns-in-None-clause-formed : goal.returns-in-None-clause-formed
returns-in-None-clause-formed g c =
    (λ n. absurd (n refl), λ w. absurd (no_form_without (line_trees c.args.proof.now) (line_tree c.args.line.now) c.requires.form c.requires.one c.in-None.ensures.formula w))
