use Rattle.nal_term.specs.Trees.{formula_tree}
use Rattle.nal_term.specs.TreeKeys.{same_formulas, same_formulas-Decides}
use Rattle.nal_term.specs.declared.formulas.Formula.{Formula}
use Rattle.trust_check.proofs.Lists.{contains_tree}
use Rattle.trust_check.proofs.valuation.Assumed.is_fact.Goals as goal

pub returns : goal.returns
returns c =
    rw c.contains.ensures.value (contains_tree (λ (f g : Formula). same_formulas (formula_tree f) (formula_tree g)) formula_tree (λ f g. same_formulas-Decides (formula_tree f) (formula_tree g)) c.args.self.now.facts.now c.args.atom.now)
