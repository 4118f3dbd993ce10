-- What is told of records.
use Rattle.std.specs.Prelude.{◌≡◌, ◌+◌, ◌<◌, ◌≤◌, ℕ, List, All, Some, length, slice_get}
use Rattle.nal_rules.specs.Verdicts.{IsLowest}
use Rattle.policy_history.specs.declared.heads.Head.{Head}
use Rattle.policy_history.specs.Events.{EntryTree}
use Rattle.audit_check.specs.declared.audits.Audited.{Audited}
use Rattle.audit_check.specs.declared.audits.Audited.TheVariants.{Right, Wrong}
use Rattle.audit_check.specs.declared.records.Record.{Record}
use Rattle.audit_check.specs.Records.{IsRightRecord}

-- the record's point is one of the journal, and its principal one of the head's
pub record IsWithin (h : Head) (es : List EntryTree) (r : Record) : Type 0 where
  pub point : r.at ≤ length es
  pub principal : r.principal < length h.principals

-- record k, counted from 1, is wrong
abbrev pub IsWrongRecord : Head → List EntryTree → List Record → ℕ → Type 0
IsWrongRecord h es records k = (j : ℕ) × (r : Record) × (k ≡ j + 1) × (slice_get records j ≡ Some r) × ¬ IsRightRecord h es r

-- each record is right; or the lowest that is not is told
abbrev pub IsAudited : Head → List EntryTree → List Record → Audited → Type 0
IsAudited h es records Right = All (IsRightRecord h es) records
IsAudited h es records (Wrong k) = IsLowest (IsWrongRecord h es records) k
