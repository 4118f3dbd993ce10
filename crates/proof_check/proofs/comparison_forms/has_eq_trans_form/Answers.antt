use Rattle.std.proofs.Common.{ap}
use Rattle.nal_term.specs.Trees.{formula_tree}
use Rattle.proof_check.proofs.Shapes.{eq_trans_spec}
use Rattle.proof_check.proofs.comparison_forms.has_eq_trans_form.Goals as goal

pub returns-then-are_three_equations-clause-form : goal.returns-then-are_three_equations-clause-form
returns-then-are_three_equations-clause-form g c =
    eq_trans_spec _ _ _ c.in-Test-Test-Test.c c.in-Test-Test-Test.d c.in-Test-Test-Test.e _ _ _ _ _ _ (ap formula_tree c.in-Test-Test-Test.is-0) (ap formula_tree c.in-Test-Test-Test.is-1) (ap formula_tree c.in-Test-Test-Test.is-2) (c.are_three_equations.ensures.0 c.if-are_three_equations.true) _ c.are_same_three.ensures.same
