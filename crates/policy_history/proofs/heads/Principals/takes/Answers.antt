use Rattle.std.proofs.Common.{length, refl, sym, ap, subst, arith}
use Rattle.policy_history.specs.Heads.{ArePrincipals}
use Rattle.policy_history.proofs.HeadLists.{principals_more, principals_taken}
use Rattle.policy_history.proofs.heads.Principals.takes.Goals as goal

pub returns-in-Some : goal.returns-in-Some
returns-in-Some c = (
  λ e. absurd (cc e),
  λ are. absurd (principals_taken c.args.self.now c.args.item.now c.in-Some.field-0 (sym c.in-Some.ensures.number) are),
)

pub returns-in-None : goal.returns-in-None
returns-in-None c = (
  λ e. principals_more c.args.self.now c.args.item.now (subst ArePrincipals c.self.view_is c.self.invariant.principals)
      (let long = ap (λ xs. length xs) c.self.view_is in omega (arith, c.if-len-ge-MOST_PRINCIPALS.false, c.len.ensures, long)) (sym c.in-None.ensures.number),
  λ are. refl,
)
