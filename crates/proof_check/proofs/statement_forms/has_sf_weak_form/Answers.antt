use Rattle.std.proofs.Common.{ap}
use Rattle.nal_term.specs.Trees.{formula_tree, term_tree}
use Rattle.proof_check.proofs.Shapes.{sf_weak_spec}
use Rattle.proof_check.proofs.statement_forms.has_sf_weak_form.Goals as goal

pub returns-in-SpeaksFor-SpeaksForOn-clause-form : goal.returns-in-SpeaksFor-SpeaksForOn-clause-form
returns-in-SpeaksFor-SpeaksForOn-clause-form g c =
    sf_weak_spec _ _ (term_tree c.in-SpeaksFor-SpeaksForOn.p) (term_tree c.in-SpeaksFor-SpeaksForOn.q) (term_tree c.in-SpeaksFor-SpeaksForOn.r) (term_tree c.in-SpeaksFor-SpeaksForOn.s) c.in-SpeaksFor-SpeaksForOn.field-2-1 (ap formula_tree c.in-SpeaksFor-SpeaksForOn.is-0) (ap formula_tree c.in-SpeaksFor-SpeaksForOn.is-1) _ c.are_same_two.ensures.same
