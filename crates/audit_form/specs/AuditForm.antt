-- The input of `audit`: a line, the text of a policy, a line for each record, and a last line.
use Rattle.std.specs.Prelude.{◌≡◌, ◌≢◌, ◌<◌, ◌+◌, ◌-◌, ◌^◌, ◌⊎◌, ℕ, List, [], ◌∷◌, ◌++◌, codes, length}
use Rattle.policy_history.specs.declared.heads.Head.{Head}
use Rattle.policy_history.specs.Events.{EntryTree}
use Rattle.text_lines.specs.Lines.{first_line, after_line}
use Rattle.journal_text.specs.PolicyFronts.{IsFront, IsWrongFront}
use Rattle.form_lines.specs.Reading.{LeadsThrough, IsWrongAt}
use Rattle.audit_check.specs.declared.records.Record.{Record}
use Rattle.audit_form.specs.RecordLines.{IsRecordLine}

-- what an input of `audit` holds: a policy, and records in their order
pub record AuditTree : Type 0 where
  pub head : Head
  pub entries : List EntryTree
  pub records : List Record

-- how many records there may be
abbrev pub most_records : ℕ
most_records = 65536

-- how much of the lines behind the policy stands
pub data Stage : Type 0 where
  record_due : List Record → Stage
  ended : List Record → Stage

-- `Follows h es stage line next`: behind this policy the line may stand at this stage, and leads to the next
pub data Follows (h : Head) (es : List EntryTree) : Stage → List ℕ → Stage → Type 0 where
  one : {line : List ℕ} {records : List Record} (r : Record) → length records < most_records → IsRecordLine h es line r
      → Follows h es (record_due records) line (record_due (records ++ r ∷ []))
  end : {line : List ℕ} {records : List Record} → line ≡ codes "end" → Follows h es (record_due records) line (ended records)

abbrev pub IsEnded : Stage → Type 0
IsEnded (ended records) = Unit {0}
IsEnded _ = ⊥

-- the greatest number that a session has: each is one of 64 bits
abbrev pub most_session : ℕ
most_session = 2 ^ 64 - 1

-- the first line of an input
abbrev pub header : List ℕ
header = codes "nexus audit 1"

-- the text holds this: the first line, the text of a policy, the lines of records, and the line `end`
pub record IsAuditForm (text : List ℕ) (form : AuditTree) : Type 0 where
  pub some : text ≢ []
  pub first : first_line text ≡ header
  pub lines : ℕ
  pub rest : List ℕ
  pub policy : IsFront most_session (after_line text) form.head form.entries lines rest
  pub read : LeadsThrough (Follows form.head form.entries) (record_due []) rest (ended form.records)

-- line k of the text is the lowest that is wrong: the first, one of the policy, or one behind it; where the text ends too early, k is
-- one more than its number of lines
pub data IsWrongLine (text : List ℕ) (k : ℕ) : Type 0 where
  in_front : k ≡ 1 → (text ≡ []) ⊎ (first_line text ≢ header) → IsWrongLine text k
  in_policy : (j : ℕ) → text ≢ [] → first_line text ≡ header → IsWrongFront most_session (after_line text) j → k ≡ 1 + j → IsWrongLine text k
  in_records : (n j : ℕ) (h : Head) (es : List EntryTree) (rest : List ℕ) → text ≢ [] → first_line text ≡ header → IsFront most_session (after_line text) h es n rest
      → IsWrongAt (Follows h es) IsEnded (record_due []) rest j → k ≡ 1 + n + j → IsWrongLine text k
