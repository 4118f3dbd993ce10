use Rattle.std.proofs.Common.{ap}
use Rattle.nal_term.specs.Trees.{formula_tree}
use Rattle.proof_check.proofs.Shapes.{eq_refl_spec}
use Rattle.proof_check.proofs.comparison_forms.has_eq_refl_form.Goals as goal

pub returns-then-is_equation-clause-form : goal.returns-then-is_equation-clause-form
returns-then-is_equation-clause-form g c =
    eq_refl_spec _ c.in-Test.compare _ _ (ap formula_tree c.in-Test.is) (c.is_equation.ensures.0 c.if-is_equation.true) _ c.equal_terms_counted.ensures.same
