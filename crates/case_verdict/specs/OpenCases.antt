-- Cases that only answers of authorities decide, and those that are denied whatever they answer.
use Rattle.std.specs.Prelude.{◌≡◌, ◌<◌, ℕ, List, Bool, Some}
use Rattle.proof_lines.specs.declared.rules.Rule.TheVariants.{Ask}
use Rattle.proof_lines.specs.Lines.{LineTree}
use Rattle.nal_rules.specs.Asking.{IsDecided}
use Rattle.nal_rules.specs.Faults.{line_at}
use Rattle.nal_rules.specs.Verdicts.{CaseTree, IsVerdict, cause_number}
use Rattle.nal_rules.specs.declared.verdicts.Cause.{Cause}
use Rattle.nal_rules.specs.declared.verdicts.Verdict.TheVariants.{Denied}

-- the case has this proof, and no cause applies that no answer of an authority can change
pub record IsOpen (c : CaseTree) (proof : List LineTree) : Type 0 where
  pub proof_is : c.proof ≡ Some proof
  pub undecided : ¬ IsDecided c

-- the case is denied by this cause, whatever authorities answer
pub record IsDeniedBy (c : CaseTree) (cause : Cause) : Type 0 where
  pub decides : cause_number cause < 6
  pub verdict : (answers : List Bool) → IsVerdict c answers (Denied cause)

-- line k is an ask line
abbrev pub IsAskLine : List LineTree → ℕ → Type 0
IsAskLine proof k = (l : LineTree) × (line_at proof k ≡ Some l) × (l.rule ≡ Ask)
