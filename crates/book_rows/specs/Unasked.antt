-- Findings without asks.
use Rattle.std.specs.Prelude.{◌≡◌}
use Rattle.guard_core.specs.declared.findings.Finding.{Finding}
use Rattle.guard_core.specs.declared.findings.Finding.TheVariants.{Allowed, Denied}

-- the call is not allowed by answers
abbrev pub IsUnasked : Finding → Type 0
IsUnasked (Allowed asks) = asks ≡ 0
IsUnasked (Denied cause) = Unit {0}
