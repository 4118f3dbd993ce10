-- The command `audit`: what it answers, what is written of it, and its status.
use Rattle.std.specs.Prelude.{◌∷◌, ◌++◌, ℕ, List, []}
use Rattle.audit_check.specs.declared.audits.Audited.{Audited}
use Rattle.audit_check.specs.declared.audits.Audited.TheVariants.{Right, Wrong}
use Rattle.audit_form.specs.Answers.{IsToldOf, told_text}
use Rattle.audit_form.specs.AuditForm.{AuditTree, IsAuditForm, IsWrongLine}
use Rattle.audit_form.specs.declared.answers.Told.{Told}
use Rattle.run_streams.specs.Runs.{SinkRun, SourceRun}
use Rattle.run_streams.specs.Ends.{Answering, RunsAnswer, answering}
use Rattle.run_streams.specs.Flaws.{FlawTree}
use Rattle.run_streams.specs.Refusals.{form_of}
use Rattle.answer_commands.specs.Headed.{IsHeadedFlaw}

-- the text has the form of an input of `audit`
abbrev pub HasAuditForm : List ℕ → Type 0
HasAuditForm text = (form : AuditTree) × IsAuditForm text form

-- line k is the lowest that is wrong, and this is wrong with it
abbrev pub IsWrongAudit : List ℕ → ℕ → FlawTree → Type 0
IsWrongAudit text k flaw = IsWrongLine text k × IsHeadedFlaw text k flaw

-- the line that is written of an answer
abbrev pub audit_output : Told → List ℕ
audit_output told = told_text told ++ 10 ∷ []

-- 0 exactly where each record is right
abbrev pub audited_status : Audited → ℕ
audited_status Right = 0
audited_status (Wrong k) = 1

abbrev pub audit_status : Told → ℕ
audit_status told = audited_status told.audited

abbrev pub audit_command : Answering Told
audit_command = answering (form_of HasAuditForm IsWrongAudit) IsToldOf audit_output audit_status

-- a run of `audit`
abbrev pub RunsAudit : SourceRun → SinkRun → ℕ → Type 0
RunsAudit source sink status = RunsAnswer audit_command source sink status
