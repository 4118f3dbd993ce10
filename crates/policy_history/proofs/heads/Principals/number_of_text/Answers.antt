use Rattle.std.proofs.Common.{refl, sym}
use Rattle.policy_history.proofs.PrincipalNames.{no_such_name}
use Rattle.policy_history.proofs.heads.Principals.number_of_text.Goals as goal

pub returns-in-Err-Bad-clause-number : goal.returns-in-Err-Bad-clause-number
returns-in-Err-Bad-clause-number c =
    let bad = (rw c.in-Err-Bad.field-0-is at c.in-Err-Bad.ensures.bad).0 refl in
    rw (← c.self.view_is) (sym (no_such_name c.self.inside.items.items c.args.name.now c.self.invariant.each bad))
