use Rattle.std.proofs.Common.{◌≡◌, Bool, true, false, List, [], ◌∷◌, ◌++◌, ◌<◌, length, nat_eq, not, refl, sym, ◌↔◌, IsTrue}
use Rattle.std.specs.List.{list_any}
use Rattle.policy_history.specs.Heads.{AreAuthorities, IsAuthority}
use Rattle.policy_history.specs.declared.heads.Authority.{Authority}
use Rattle.policy_history.proofs.HeadLists.{authorities_more, authorities_taken}
use Rattle.policy_history.proofs.heads.takes_authority.Goals as goal

by_port : (xs : List Authority) (y : Authority) (b : Bool) → b ≡ list_any (λ (a : Authority). nat_eq y.port a.port) xs → AreAuthorities xs → length xs < 16 → IsAuthority y
    → IsTrue (not b) ↔ AreAuthorities (xs ++ y ∷ [])
by_port xs y true e are short formed = (λ t. absurd (cc t), λ more. absurd (authorities_taken xs y (sym e) more))
by_port xs y false e are short formed = (λ t. authorities_more xs y are short formed (sym e), λ more. refl)

pub returns : goal.returns
returns c = by_port c.args.items.now c.args.item.now c.is_port_of.result c.is_port_of.ensures c.requires c.if-items-ge16.false (c.is_formed.ensures.0 c.if-not-is_formed.false)
