use Rattle.std.proofs.Common.{refl, ap}
use Rattle.nal_term.specs.Trees.{formula_tree}
use Rattle.trust_form.proofs.givens.is_atom.Goals as goal

pub returns-in-Atom : goal.returns-in-Atom
returns-in-Atom c = (λ t. (_, _, ap formula_tree c.in-Atom.is), λ s. refl)
