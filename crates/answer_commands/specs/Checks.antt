-- The command `check`: what it answers, what is written of it, and its status.
use Rattle.std.specs.Prelude.{◌∷◌, ◌++◌, [], ℕ, List}
use Rattle.nal_rules.specs.declared.verdicts.Verdict.{Verdict}
use Rattle.nal_rules.specs.declared.verdicts.Verdict.TheVariants.{Allowed, Denied}
use Rattle.audit_check.specs.declared.records.Recorded.TheVariants.{Told}
use Rattle.audit_form.specs.VerdictTexts.{verdict_text}
use Rattle.run_streams.specs.Ends.{Answering, RunsAnswer, answering}
use Rattle.run_streams.specs.Refusals.{form_of}
use Rattle.run_streams.specs.Runs.{SinkRun, SourceRun}
use Rattle.answer_commands.specs.CheckForm.{CheckForm, IsCheckForm, IsWrongAt}
use Rattle.answer_commands.specs.CheckVerdicts.{IsJustifiedIfAllowed, IsVerdictOn}

-- the text has the form of an input of `check`
abbrev pub HasCheckForm : List ℕ → Type 0
HasCheckForm text = (form : CheckForm) × IsCheckForm text form

-- the verdict is that on what the text holds, and it is justified where it is that the input is allowed
abbrev pub IsChecked : List ℕ → Verdict → Type 0
IsChecked text verdict = (form : CheckForm) × IsCheckForm text form × IsVerdictOn form verdict × IsJustifiedIfAllowed form verdict

-- the line that is written of a verdict
abbrev pub check_output : Verdict → List ℕ
check_output verdict = verdict_text (Told verdict) ++ 10 ∷ []

-- 0 exactly where the input is allowed
abbrev pub check_status : Verdict → ℕ
check_status Allowed = 0
check_status (Denied cause) = 1

abbrev pub check_command : Answering Verdict
check_command = answering (form_of HasCheckForm IsWrongAt) IsChecked check_output check_status

-- a run of `check`
abbrev pub RunsCheck : SourceRun → SinkRun → ℕ → Type 0
RunsCheck source sink status = RunsAnswer check_command source sink status
