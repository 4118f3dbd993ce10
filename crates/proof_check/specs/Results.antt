-- What the answers of the checker mean.
use Rattle.std.specs.Prelude.{◌≡◌, List, []}
use Rattle.nal_term.specs.Trees.{FormulaTree}
use Rattle.proof_lines.specs.Lines.{LineTree}
use Rattle.nal_rules.specs.Faults.{HasLowestFault}
use Rattle.proof_check.specs.declared.checks.CheckError.{CheckError}
use Rattle.proof_check.specs.declared.checks.CheckError.TheVariants.{Empty, Line, Memory}

-- the error is told rightly of a proof with these lines and of this goal
abbrev pub IsRightError : List LineTree → FormulaTree → CheckError → Type 0
IsRightError lines goal Empty = lines ≡ []
IsRightError lines goal (Line k fault) = HasLowestFault lines goal k fault
IsRightError lines goal Memory = Unit {0}
