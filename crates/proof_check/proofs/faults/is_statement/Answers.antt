use Rattle.std.proofs.Common.{ap, refl}
use Rattle.nal_term.specs.Trees.{formula_tree, term_tree}
use Rattle.proof_check.proofs.faults.is_statement.Goals as goal

pub returns-in-Says : goal.returns-in-Says
returns-in-Says c =
    (λ _. (term_tree c.in-Says.field-0, formula_tree c.in-Says.field-1.value, ap formula_tree c.in-Says.is), λ _. refl)
