use Rattle.std.proofs.Common.{ap, ◌∙◌}
use Rattle.nal_term.specs.Trees.{formula_tree, term_tree, speaks_for}
use Rattle.proof_check.proofs.Shapes.{sf_sub_spec}
use Rattle.proof_check.proofs.statement_forms.has_sf_sub_form.Goals as goal

pub returns-in-Sub-clause-form : goal.returns-in-Sub-clause-form
returns-in-Sub-clause-form g c =
    sf_sub_spec _ (term_tree c.in-SpeaksFor.p) (term_tree c.in-Sub.q.value) c.in-Sub.field-1 (ap formula_tree c.in-SpeaksFor.is ∙ ap (λ t. speaks_for (term_tree c.in-SpeaksFor.p) (term_tree t)) c.in-Sub.is) _ (rw c.deref.ensures at c.equal_terms_counted.ensures.same)
