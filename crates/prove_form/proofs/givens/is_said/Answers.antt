use Rattle.std.proofs.Common.{refl, ap}
use Rattle.nal_term.specs.Trees.{formula_tree}
use Rattle.prove_form.proofs.givens.is_said.Goals as goal

pub returns-in-Says : goal.returns-in-Says
returns-in-Says c = (λ t. (_, _, ap formula_tree c.in-Says.is), λ s. refl)
