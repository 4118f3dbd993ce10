use Rattle.std.proofs.Common.{◌∙◌, sym}
use Rattle.policy_history.proofs.PrincipalNames.{place_named}
use Rattle.policy_history.proofs.heads.Principals.number_of.Goals as goal

pub returns-in-Some-clause-number : goal.returns-in-Some-clause-number
returns-in-Some-clause-number c =
    let at = sym c.get_index_of.ensures.index ∙ c.in-Some.is in
    rw (← c.self.view_is) (sym at ∙ place_named c.self.inside.items.items c.self.inside.names.keys c.args.name.now c.self.invariant.named)

pub returns-in-None-clause-number : goal.returns-in-None-clause-number
returns-in-None-clause-number c =
    let none = sym c.get_index_of.ensures.index ∙ c.in-None.is in
    rw (← c.self.view_is) (sym none ∙ place_named c.self.inside.items.items c.self.inside.names.keys c.args.name.now c.self.invariant.named)
