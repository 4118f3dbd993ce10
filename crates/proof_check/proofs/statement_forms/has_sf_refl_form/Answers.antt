use Rattle.std.proofs.Common.{ap}
use Rattle.nal_term.specs.Trees.{formula_tree}
use Rattle.proof_check.proofs.Shapes.{sf_refl_spec}
use Rattle.proof_check.proofs.statement_forms.has_sf_refl_form.Goals as goal

pub returns-in-SpeaksFor-clause-form : goal.returns-in-SpeaksFor-clause-form
returns-in-SpeaksFor-clause-form g c =
    sf_refl_spec _ _ _ (ap formula_tree c.in-SpeaksFor.is) _ c.equal_terms_counted.ensures.same
