use Rattle.std.proofs.Common.{ap}
use Rattle.nal_term.specs.Trees.{formula_tree}
use Rattle.proof_check.proofs.Shapes.{lt_trans_spec}
use Rattle.proof_check.proofs.comparison_forms.has_lt_trans_form.Goals as goal

pub returns-then-are_strict-clause-form : goal.returns-then-are_strict-clause-form
returns-then-are_strict-clause-form g c =
    lt_trans_spec _ _ _ c.in-Test-Test-Test.c c.in-Test-Test-Test.d c.in-Test-Test-Test.e _ _ _ _ _ _ (ap formula_tree c.in-Test-Test-Test.is-0) (ap formula_tree c.in-Test-Test-Test.is-1) (ap formula_tree c.in-Test-Test-Test.is-2) (c.are_strict.ensures.0 c.if-are_strict.true) _ c.are_same_three.ensures.same
