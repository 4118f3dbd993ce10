-- What the readers of parts of an input answer.
use Rattle.std.specs.Prelude.{◌≡◌, ◌+◌, ℕ, List, []}
use Rattle.policy_history.specs.declared.heads.Head.{Head}
use Rattle.policy_history.specs.Events.{EntryTree}
use Rattle.policy_history.specs.Values.{entry_trees}
use Rattle.form_lines.specs.Reading.{IsWrongAt}
use Rattle.policy_history.specs.PolicyLines.{spaced}
use Rattle.journal_text.specs.PolicyFronts.{IsWrongFront}
use Rattle.journal_text.specs.Inner.PolicyReading.{IsUnspaced}
use Rattle.audit_check.specs.declared.records.Answers.{Answers}
use Rattle.audit_check.specs.declared.records.Recorded.{Recorded}
use Rattle.audit_form.specs.declared.read.AuditForm as read
use Rattle.audit_form.specs.declared.read.AuditError.{AuditError}
use Rattle.audit_form.specs.declared.read.AuditError.TheVariants.{Wrong, Memory}
use Rattle.audit_form.specs.declared.read.AuditProgress.{AuditProgress}
use Rattle.audit_form.specs.declared.read.AuditProgress.TheVariants.{RecordDue, Ended}
use Rattle.audit_form.specs.AuditForm.{AuditTree, Follows, IsEnded, IsWrongLine, Stage, ended, most_session, record_due}
use Rattle.audit_form.specs.RecordLines.{AreFew, answers_text, told_text}
use Rattle.audit_form.specs.VerdictTexts.{IsNumbered}

-- the text is that of these answers
pub record IsAnswersText (text : List ℕ) (answers : Answers) : Type 0 where
  pub formed : text ≡ answers_text answers
  pub few : AreFew answers

-- the text is that of answers, and of what was answered to the call
pub record IsToldText (text : List ℕ) (answers : Answers) (verdict : Recorded) : Type 0 where
  pub formed : text ≡ told_text answers verdict
  pub few : AreFew answers
  pub lines : IsNumbered verdict

-- the first four words of a line, and what follows them
pub record AreWords (line at name op object told : List ℕ) : Type 0 where
  pub formed : line ≡ spaced at (spaced name (spaced op (spaced object told)))
  pub at_plain : IsUnspaced at
  pub name_plain : IsUnspaced name
  pub op_plain : IsUnspaced op
  pub object_plain : IsUnspaced object

-- the plain value of what was read
abbrev pub form_tree : read.AuditForm → AuditTree
form_tree form = record { head = form.journal.head; entries = entry_trees form.journal.entries; records = form.records.items }

-- a policy, and how much of the lines behind it stands
pub data Behind : Type 0 where
  behind : Head → List EntryTree → Stage → Behind

-- which line may follow which behind a policy, which stays the same
pub data FollowsBehind : Behind → List ℕ → Behind → Type 0 where
  same : {h : Head} {es : List EntryTree} {stage next : Stage} {line : List ℕ} → Follows h es stage line next → FollowsBehind (behind h es stage) line (behind h es next)

abbrev pub IsEndedBehind : Behind → Type 0
IsEndedBehind (behind h es stage) = IsEnded stage

-- the stage that the reader's progress is
abbrev pub stage_of : AuditProgress → Behind
stage_of (RecordDue journal records) = behind journal.now.head (entry_trees journal.now.entries) (record_due records.items)
stage_of (Ended journal records) = behind journal.now.head (entry_trees journal.now.entries) (ended records.items)

-- the line that is told is the lowest that is wrong
abbrev pub IsWrongInput : List ℕ → AuditError → Type 0
IsWrongInput text (Wrong k) = IsWrongLine text k
IsWrongInput text Memory = Unit {0}

-- the line that is told is the lowest that is wrong of lines behind so many
abbrev pub IsWrongAfter : Head → List EntryTree → ℕ → List ℕ → AuditError → Type 0
IsWrongAfter h es before text (Wrong k) = (j : ℕ) × (k ≡ before + j) × IsWrongAt (Follows h es) IsEnded (record_due []) text j
IsWrongAfter h es before text Memory = Unit {0}

-- the line that is told is the lowest that is wrong of a policy behind the first line
abbrev pub IsWrongBehind : List ℕ → AuditError → Type 0
IsWrongBehind text (Wrong k) = (j : ℕ) × IsWrongFront most_session text j × (k ≡ j + 1)
IsWrongBehind text Memory = Unit {0}
