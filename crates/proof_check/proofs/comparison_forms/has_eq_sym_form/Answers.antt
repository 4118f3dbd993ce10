use Rattle.std.proofs.Common.{ap}
use Rattle.nal_term.specs.Trees.{formula_tree}
use Rattle.proof_check.proofs.Shapes.{eq_sym_spec}
use Rattle.proof_check.proofs.comparison_forms.has_eq_sym_form.Goals as goal

pub returns-then-are_two_equations-clause-form : goal.returns-then-are_two_equations-clause-form
returns-then-are_two_equations-clause-form g c =
    eq_sym_spec _ _ c.in-Test-Test.c c.in-Test-Test.d _ _ _ _ (ap formula_tree c.in-Test-Test.is-0) (ap formula_tree c.in-Test-Test.is-1) (c.are_two_equations.ensures.0 c.if-are_two_equations.true) _ c.are_same_two.ensures.same
