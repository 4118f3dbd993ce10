-- The head of a policy text: who the principals are, and which authorities can be asked.
use Rattle.std.specs.Prelude.{ℕ, ◌≢◌, ◌≤◌, ◌<◌, List, length}
use Rattle.std.specs.List.{All, AllPairs}
use Rattle.nal_term.specs.Secrets.{IsSecret}
use Rattle.policy_history.specs.declared.heads.Principal.{Principal}
use Rattle.policy_history.specs.declared.heads.Authority.{Authority}

-- how many principals there may be, and how many ports, each for one authority
abbrev pub most_principals : ℕ
most_principals = 16384

abbrev pub ports : ℕ
ports = 16

-- at most 16,384 principals, each with a name of its own
pub record ArePrincipals (xs : List Principal) : Type 0 where
  pub bound : length xs ≤ most_principals
  pub distinct : AllPairs (λ (x y : Principal). x.name ≢ y.name) xs

-- the port is one of 0 to 15, and the address is made as a secret is
abbrev pub IsAuthority : Authority → Type 0
IsAuthority a = (a.port < ports) × IsSecret a.address

-- at most 16 authorities, each with a port of its own
pub record AreAuthorities (xs : List Authority) : Type 0 where
  pub bound : length xs ≤ ports
  pub each : All IsAuthority xs
  pub distinct : AllPairs (λ (x y : Authority). x.port ≢ y.port) xs
