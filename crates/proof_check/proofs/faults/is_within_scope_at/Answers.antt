use Rattle.std.proofs.Common.{◌≡◌, ◌∙◌, ◌∷◌, [], length, ap, sym, subst}
use Rattle.nal_term.specs.Trees.{formula_tree}
use Rattle.proof_lines.specs.Lines.{line_trees, reference_count}
use Rattle.nal_rules.specs.Faults.{IsOutOfScope}
use Rattle.proof_check.specs.Inner.Sound.{IsWithinScope}
use Rattle.proof_check.proofs.Shapes.{two_known, two_unknown_first, two_unknown_second}
use Rattle.proof_check.proofs.faults.is_within_scope_at.Goals as goal

pub returns-in_default-clause-met : goal.returns-in_default-clause-met
returns-in_default-clause-met g c =
    let size : length c.args.line.now.refs ≡ 2 = c.requires.form.references ∙ ap reference_count c.requires.rule in
    let none = two_unknown_first (line_trees c.args.proof.now) c.args.line.now.refs size c.in_default.ensures.formula in
    λ t premises e. absurd (cc (none, e))

pub returns-in_default-premise_at-clause-met : goal.returns-in_default-premise_at-clause-met
returns-in_default-premise_at-clause-met g c =
    let size : length c.args.line.now.refs ≡ 2 = c.requires.form.references ∙ ap reference_count c.requires.rule in
    let none = two_unknown_second (line_trees c.args.proof.now) c.args.line.now.refs size _ c.in-Some.ensures.formula c.in_default-premise_at.ensures.formula in
    λ t premises e. absurd (cc (none, e))

pub returns-clause-met : goal.returns-clause-met
returns-clause-met g c =
    let f = formula_tree c.in-Some.first.now in
    let h = formula_tree c.in-Some-premise_at.second.now in
    let size : length c.args.line.now.refs ≡ 2 = c.requires.form.references ∙ ap reference_count c.requires.rule in
    let found = two_known (line_trees c.args.proof.now) c.args.line.now.refs size f h c.in-Some.ensures.formula c.in-Some-premise_at.ensures.formula in
    λ t premises e. let same : f ∷ h ∷ [] ≡ premises = cc (found, e) in
    subst (λ fs. IsWithinScope c.args.line.now.rule fs) same (subst (λ r. IsWithinScope r (f ∷ h ∷ [])) (sym c.requires.rule) (c.is_within_scope.ensures.met t))

pub returns-clause-unmet : goal.returns-clause-unmet
returns-clause-unmet g c =
    let f = formula_tree c.in-Some.first.now in
    let h = formula_tree c.in-Some-premise_at.second.now in
    let size : length c.args.line.now.refs ≡ 2 = c.requires.form.references ∙ ap reference_count c.requires.rule in
    let found = two_known (line_trees c.args.proof.now) c.args.line.now.refs size f h c.in-Some.ensures.formula c.in-Some-premise_at.ensures.formula in
    λ t. (f ∷ h ∷ [], found, subst (λ r. IsOutOfScope r (f ∷ h ∷ [])) (sym c.requires.rule) (c.is_within_scope.ensures.unmet t))
