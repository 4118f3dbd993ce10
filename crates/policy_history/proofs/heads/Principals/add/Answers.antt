use Rattle.std.proofs.Common.{◌≡◌, ◌∙◌, ◌++◌, ◌∷◌, [], sym, ap, subst}
use Rattle.policy_history.specs.Heads.{ArePrincipals}
use Rattle.policy_history.specs.Inner.Named.{AreNamed}
use Rattle.policy_history.proofs.PrincipalNames.{named_more}
use Rattle.policy_history.proofs.heads.Principals.add.Goals as goal

pub invariant_of-self-2 : goal.invariant_of-self-2
invariant_of-self-2 c =
    let items = c.self.inside.items.items in
    let inserted = rw c.unwrap.ensures at c.insert.ensures.keys in
    let pushed : c.push.new.self.items ≡ c.reserve.new.self.items ++ c.args.item ∷ [] = rw c.unwrap-2.ensures at c.push.ensures.items in
    let all : c.push.new.self.items ≡ items ++ c.args.item ∷ [] = pushed ∙ ap (λ xs. xs ++ c.args.item ∷ []) c.reserve.ensures.items in
    let named = subst (λ ns. AreNamed items ns) (sym c.reserve-2.ensures.keys) c.self.invariant in
    let principals = subst (λ xs. ArePrincipals (xs ++ c.args.item ∷ [])) (sym c.self.view_is) c.requires in
    subst (λ xs. AreNamed xs c.insert.new.self.keys) (sym all)
    (named_more items c.args.item c.reserve-2.new.self.keys c.insert.new.self.keys c.in_ok-name.name named principals (rw c.as_slice.ensures.bytes at c.as_slice.ensures.name)
    (c.in_ok-name.ensures ∙ c.as_slice.ensures.bytes) inserted)
