use Rattle.std.proofs.Common.{ap}
use Rattle.nal_term.specs.Trees.{formula_tree}
use Rattle.proof_check.proofs.Shapes.{and_l_spec}
use Rattle.proof_check.proofs.logic_forms.has_and_l_form.Goals as goal

pub returns-in-And-clause-form : goal.returns-in-And-clause-form
returns-in-And-clause-form g c =
    and_l_spec _ _ (formula_tree c.in-And.a.value) (formula_tree c.in-And.field-1.value) (ap formula_tree c.in-And.is) _ (rw c.deref.ensures at c.equal_counted.ensures.same)
