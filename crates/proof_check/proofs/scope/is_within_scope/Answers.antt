use Rattle.std.proofs.Common.{◌≡◌, ap, ◌∙◌}
use Rattle.nal_term.specs.Trees.{formula_tree, term_tree, says}
use Rattle.proof_check.proofs.scope.is_within_scope.Goals as goal

pub returns-else-not-equal_terms_counted-clause-unmet : goal.returns-else-not-equal_terms_counted-clause-unmet
returns-else-not-equal_terms_counted-clause-unmet g c =
    let i = c.in-SpeaksForOn-Says in
    let f = formula_tree i.f.value in
    let same : term_tree i.q ≡ term_tree i.p = c.equal_terms_counted.ensures.same.0 c.if-not-equal_terms_counted.false in
    let inside = rw c.deref.ensures at c.is_in_scope.ensures.scope in
    λ e. (term_tree i.p, term_tree i.field-1-0, i.scope, f, ap formula_tree i.is-0, ap formula_tree i.is-1 ∙ ap (λ t. says t f) same, λ w. let t = inside.1 w in absurd (cc (t, e)))
