use Rattle.std.proofs.Common.{ap}
use Rattle.nal_term.specs.Trees.{formula_tree, term_tree}
use Rattle.proof_check.proofs.Shapes.{sf_e_spec}
use Rattle.proof_check.proofs.statement_forms.has_sf_e_form.Goals as goal

pub returns-in-SpeaksFor-Says-Says-clause-form : goal.returns-in-SpeaksFor-Says-Says-clause-form
returns-in-SpeaksFor-Says-Says-clause-form g c =
    sf_e_spec _ _ _ (term_tree c.in-SpeaksFor-Says-Says.p) (term_tree c.in-SpeaksFor-Says-Says.q) (term_tree c.in-SpeaksFor-Says-Says.r) (term_tree c.in-SpeaksFor-Says-Says.s) (formula_tree c.in-SpeaksFor-Says-Says.f.value) (formula_tree c.in-SpeaksFor-Says-Says.g.value) (ap formula_tree c.in-SpeaksFor-Says-Says.is-0) (ap formula_tree c.in-SpeaksFor-Says-Says.is-1) (ap formula_tree c.in-SpeaksFor-Says-Says.is-2) _ (rw (c.deref.ensures, c.deref-in-SpeaksFor-Says-Says.ensures) at c.are_same_said.ensures.same)
