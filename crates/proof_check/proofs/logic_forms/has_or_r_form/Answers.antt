use Rattle.std.proofs.Common.{ap}
use Rattle.nal_term.specs.Trees.{formula_tree}
use Rattle.proof_check.proofs.Shapes.{or_r_spec}
use Rattle.proof_check.proofs.logic_forms.has_or_r_form.Goals as goal

pub returns-in-Or-clause-form : goal.returns-in-Or-clause-form
returns-in-Or-clause-form g c =
    or_r_spec _ _ (formula_tree c.in-Or.field-0.value) (formula_tree c.in-Or.b.value) (ap formula_tree c.in-Or.is) _ (rw c.deref.ensures at c.equal_counted.ensures.same)
