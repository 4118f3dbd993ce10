-- How the parts of a run of `serve` end.
use Rattle.std.specs.Prelude.{ℕ, List}
use Rattle.service_commands.specs.declared.service.PolicyTextError.{PolicyTextError}
use Rattle.service_commands.specs.declared.service.PolicyTextError.TheVariants.{Wrong, Memory}
use Rattle.service_commands.specs.Services.{IsWrongPolicy}

-- the line that is told is the lowest that is wrong
abbrev pub IsWrongText : ℕ → List ℕ → PolicyTextError → Type 0
IsWrongText most text (Wrong k) = IsWrongPolicy most text k
IsWrongText most text Memory = Unit {0}
