-- The text of what was answered to a call.
use Rattle.std.specs.Prelude.{◌≡◌, ◌<◌, ◌≤◌, ◌^◌, ℕ, List, codes}
use Rattle.std.specs.Fmt.{decimal}
use Rattle.nal_rules.specs.Faults.{fault_number}
use Rattle.nal_rules.specs.declared.verdicts.Cause.{Cause}
use Rattle.nal_rules.specs.declared.verdicts.Cause.TheVariants.{GoalUnset, NoProof, Line, LabelMissing, NotBound, AuthorityNo}
use Rattle.nal_rules.specs.declared.verdicts.Fault.{Fault}
use Rattle.nal_rules.specs.declared.verdicts.Verdict.TheVariants.{Allowed, Denied}
use Rattle.audit_check.specs.declared.records.Recorded.{Recorded}
use Rattle.audit_check.specs.declared.records.Recorded.TheVariants.{NoObject, Told, Down}
use Rattle.policy_history.specs.PolicyLines.{spaced}
use Rattle.journal_text.specs.ReplyLines.{fault_names, named}

-- the name of a fault
abbrev pub fault_name : Fault → List ℕ
fault_name fault = named fault_names (fault_number fault)

-- the words of a cause, as in the line of a reply: its name, the line where it names one, and the fault where it names one
abbrev pub cause_text : Cause → List ℕ
cause_text GoalUnset = codes "GoalUnset"
cause_text NoProof = codes "NoProof"
cause_text (Line k fault) = spaced (codes "Line") (spaced (decimal k) (fault_name fault))
cause_text (LabelMissing k) = spaced (codes "LabelMissing") (decimal k)
cause_text (NotBound k) = spaced (codes "NotBound") (decimal k)
cause_text (AuthorityNo k) = spaced (codes "AuthorityNo") (decimal k)

-- the words of what was answered
abbrev pub verdict_text : Recorded → List ℕ
verdict_text NoObject = codes "refused NoSuchObject"
verdict_text (Told Allowed) = codes "allowed"
verdict_text (Told (Denied cause)) = spaced (codes "denied") (cause_text cause)
verdict_text (Down k) = spaced (codes "down") (decimal k)

-- lines are numbered from 1; an authority is down at one of the lines that a proof may have
abbrev pub IsLineNumber : ℕ → Type 0
IsLineNumber k = (1 ≤ k) × (k < 2 ^ 64)

abbrev pub HasLine : Cause → Type 0
HasLine GoalUnset = Unit {0}
HasLine NoProof = Unit {0}
HasLine (Line k fault) = IsLineNumber k
HasLine (LabelMissing k) = IsLineNumber k
HasLine (NotBound k) = IsLineNumber k
HasLine (AuthorityNo k) = IsLineNumber k

abbrev pub IsNumbered : Recorded → Type 0
IsNumbered NoObject = Unit {0}
IsNumbered (Told Allowed) = Unit {0}
IsNumbered (Told (Denied cause)) = HasLine cause
IsNumbered (Down k) = (1 ≤ k) × (k ≤ 256)

-- the text is that of this answer
pub record IsVerdictText (text : List ℕ) (v : Recorded) : Type 0 where
  pub formed : text ≡ verdict_text v
  pub numbered : IsNumbered v
