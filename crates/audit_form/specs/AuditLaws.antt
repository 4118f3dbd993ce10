-- The law of right records: lines of such records behind the text of a policy are audited, and all are right.
use Rattle.std.specs.Prelude.{◌≤◌, ◌++◌, ℕ, List, All, codes, length}
use Rattle.std.specs.List.{flat_map}
use Rattle.policy_history.specs.declared.heads.Head.{Head}
use Rattle.policy_history.specs.Events.{EntryTree}
use Rattle.policy_history.specs.PolicyTexts.{ended, policy_text}
use Rattle.journal_text.specs.CutLaws.{IsWritten}
use Rattle.audit_check.specs.declared.audits.Audited.TheVariants.{Right}
use Rattle.audit_check.specs.declared.records.Record.{Record}
use Rattle.audit_check.specs.Records.{IsRightRecord}
use Rattle.audit_form.specs.Answers.{IsToldOf}
use Rattle.audit_form.specs.AuditForm.{header, most_records}
use Rattle.audit_form.specs.RecordLines.{IsRecordLine}

-- the line is that of a record, which is right over this history
abbrev pub IsRightLine : Head → List EntryTree → List ℕ → Type 0
IsRightLine h es line = (r : Record) × IsRecordLine h es line r × IsRightRecord h es r

-- an input of `audit`: the policy with this head and these entries, and these lines behind it
abbrev pub audit_text : Head → List EntryTree → List (List ℕ) → List ℕ
audit_text h es lines = ended header ++ policy_text h es ++ flat_map ended lines ++ ended (codes "end")

-- so many such lines, in any order, behind a policy that is read again as the program writes it, are audited, and all are right
abbrev pub RightLinesAreAudited : Type 0
RightLinesAreAudited = (h : Head) (es : List EntryTree) (lines : List (List ℕ)) → IsWritten h es → All (IsRightLine h es) lines → length lines ≤ most_records
    → IsToldOf (audit_text h es lines) (record { count = length lines; audited = Right })
