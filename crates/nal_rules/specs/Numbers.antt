-- The numbers by which a cause is told.
use Rattle.std.specs.Prelude.{ℕ}
use Rattle.nal_rules.specs.Faults.{fault_number}
use Rattle.nal_rules.specs.Verdicts.{cause_number}
use Rattle.nal_rules.specs.declared.verdicts.Cause.{Cause}
use Rattle.nal_rules.specs.declared.verdicts.Cause.TheVariants.{GoalUnset, NoProof, Line, LabelMissing, NotBound, AuthorityNo}

-- the line that a cause names, or 0
abbrev pub line_number : Cause → ℕ
line_number GoalUnset = 0
line_number NoProof = 0
line_number (Line k fault) = k
line_number (LabelMissing k) = k
line_number (NotBound k) = k
line_number (AuthorityNo k) = k

-- the number of the fault that a cause names, or 0
abbrev pub named_fault : Cause → ℕ
named_fault (Line k fault) = fault_number fault
named_fault _ = 0

-- the cause's own number, that of its line and that of its fault
abbrev pub cause_numbers : Cause → ℕ × ℕ × ℕ
cause_numbers cause = (cause_number cause, line_number cause, named_fault cause)
