-- What always holds of the principals of a head.
use Rattle.std.specs.Prelude.{◌≡◌, ℕ, List, map}
use Rattle.std.specs.List.{All}
use Rattle.nal_term.specs.Names.{IsName}
use Rattle.policy_history.specs.declared.heads.Principal.{Principal}
use Rattle.policy_history.specs.Heads.{ArePrincipals}

-- they are principals, each has a name, and these are their names, in their order
pub record AreNamed (items : List Principal) (names : List (List ℕ)) : Type 0 where
  pub principals : ArePrincipals items
  pub each : All (λ (x : Principal). IsName x.name) items
  pub named : names ≡ map (λ (x : Principal). x.name) items
