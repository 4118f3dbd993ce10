use Rattle.std.proofs.Common.{ap}
use Rattle.nal_term.specs.Trees.{formula_tree, term_tree}
use Rattle.proof_check.proofs.Shapes.{says_i_spec}
use Rattle.proof_check.proofs.statement_forms.has_says_i_form.Goals as goal

pub returns-in-Says-clause-form : goal.returns-in-Says-clause-form
returns-in-Says-clause-form g c =
    says_i_spec _ _ (term_tree c.in-Says.field-0) (formula_tree c.in-Says.f.value) (ap formula_tree c.in-Says.is) _ (rw c.deref.ensures at c.equal_counted.ensures.same)
