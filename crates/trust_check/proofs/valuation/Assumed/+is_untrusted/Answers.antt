use Rattle.nal_term.specs.Trees.{term_tree}
use Rattle.trust_check.specs.Inner.Assumed.{assumptions_in}
use Rattle.trust_check.specs.Valuation.{listed}
use Rattle.trust_check.proofs.Deciding.{subprincipal_told}
use Rattle.trust_check.proofs.valuation.Assumed.+is_untrusted.Goals as goal

pub returns-then-is_listed : goal.returns-then-is_listed
returns-then-is_listed t c = (λ yes. listed (c.is_listed.ensures.0 yes), λ u. c.if-is_listed.true)

pub returns-in-Sub : goal.returns-in-Sub
returns-in-Sub t c =
    rw c.in-Sub.is (subprincipal_told (assumptions_in c.args.self.now) (term_tree c.in-Sub.above.value) c.in-Sub.field-1 c.is_listed.result c.is_untrusted.result c.if-is_listed.false
    (rw c.in-Sub.is at c.is_listed.ensures) (rw c.deref.ensures at c.is_untrusted.ensures))
