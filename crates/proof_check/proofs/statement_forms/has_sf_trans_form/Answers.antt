use Rattle.std.proofs.Common.{ap}
use Rattle.nal_term.specs.Trees.{formula_tree}
use Rattle.proof_check.proofs.Shapes.{sf_trans_spec}
use Rattle.proof_check.proofs.statement_forms.has_sf_trans_form.Goals as goal

pub returns-in-SpeaksFor-SpeaksFor-SpeaksFor-clause-form : goal.returns-in-SpeaksFor-SpeaksFor-SpeaksFor-clause-form
returns-in-SpeaksFor-SpeaksFor-SpeaksFor-clause-form g c =
    sf_trans_spec _ _ _ _ _ _ _ _ _ (ap formula_tree c.in-SpeaksFor-SpeaksFor-SpeaksFor.is-0) (ap formula_tree c.in-SpeaksFor-SpeaksFor-SpeaksFor.is-1) (ap formula_tree c.in-SpeaksFor-SpeaksFor-SpeaksFor.is-2) _ c.are_same_three.ensures.same
