use Rattle.nal_term.specs.Trees.{term_tree}
use Rattle.nal_term.specs.TreeKeys.{same_terms, same_terms-Decides}
use Rattle.nal_term.specs.declared.terms.Term.{Term}
use Rattle.trust_check.proofs.Lists.{contains_tree}
use Rattle.trust_check.proofs.valuation.Assumed.is_listed.Goals as goal

pub returns : goal.returns
returns c =
    rw c.contains.ensures.value (contains_tree (λ (t u : Term). same_terms (term_tree t) (term_tree u)) term_tree (λ t u. same_terms-Decides (term_tree t) (term_tree u)) c.args.self.now.untrusted.now c.args.principal.now)
