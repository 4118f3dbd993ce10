use Rattle.std.proofs.Common.{◌≡◌, ◌↔◌, IsTrue, ap, sym, ◌∙◌}
use Rattle.nal_term.specs.Trees.{formula_tree, term_tree, says, implies}
use Rattle.proof_check.proofs.Shapes.{deduce_spec}
use Rattle.proof_check.proofs.statement_forms.has_deduce_form.Goals as goal

pub returns-then-are_same_terms-clause-form : goal.returns-then-are_same_terms-clause-form
returns-then-are_same_terms-clause-form g c =
    let s = c.in-Says-Says-Says in
    let a = formula_tree c.in-Implies.a.value in
    let b = formula_tree c.in-Implies.b.value in
    let f = formula_tree s.f.value in
    let g = formula_tree s.g.value in
    let body : formula_tree s.body.value ≡ implies a b = ap formula_tree (sym c.deref.ensures ∙ c.in-Implies.is) in
    let e0 : formula_tree c.args.first.now ≡ says (term_tree s.p) (implies a b) = ap formula_tree s.is-0 ∙ ap (λ x. says (term_tree s.p) x) body in
    let e1 : formula_tree c.args.second.now ≡ says (term_tree s.q) f = ap formula_tree s.is-1 in
    let e2 : formula_tree c.args.conclusion.now ≡ says (term_tree s.r) g = ap formula_tree s.is-2 in
    let parts : IsTrue c.are_same_formulas.result ↔ ((a ≡ f) × (b ≡ g)) = rw (c.deref-then-are_same_terms.ensures, c.deref-then-are_same_terms-2.ensures, c.deref-then-are_same_terms-3.ensures, c.deref-then-are_same_terms-4.ensures) at c.are_same_formulas.ensures.same in
    deduce_spec _ _ _ _ _ _ a b f g e0 e1 e2 (c.are_same_terms.ensures.same.0 c.if-are_same_terms.true) _ parts
