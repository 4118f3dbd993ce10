-- The command `explain`: what it answers, what is written of it, and its status.
use Rattle.std.specs.Prelude.{ℕ, List, cond}
use Rattle.explain_form.specs.Answers.{IsToldOf}
use Rattle.explain_form.specs.ExplainForm.{ExplainTree, IsExplainForm, IsWrongLine}
use Rattle.explain_form.specs.declared.answers.ExplanationText.{ExplanationText}
use Rattle.run_streams.specs.Runs.{SinkRun, SourceRun}
use Rattle.run_streams.specs.Ends.{Answering, RunsAnswer, answering}
use Rattle.run_streams.specs.Flaws.{FlawTree}
use Rattle.run_streams.specs.Refusals.{form_of}
use Rattle.answer_commands.specs.Headed.{IsHeadedFlaw}

-- the text has the form of an input of `explain`
abbrev pub HasExplainForm : List ℕ → Type 0
HasExplainForm text = (form : ExplainTree) × IsExplainForm text form

-- line k is the lowest that is wrong, and this is wrong with it
abbrev pub IsWrongExplain : List ℕ → ℕ → FlawTree → Type 0
IsWrongExplain text k flaw = IsWrongLine text k × IsHeadedFlaw text k flaw

-- the lines that are written of an answer
abbrev pub explain_output : ExplanationText → List ℕ
explain_output told = told.text

-- 0 exactly where the call is allowed
abbrev pub explain_status : ExplanationText → ℕ
explain_status told = cond told.allowed 0 1

abbrev pub explain_command : Answering ExplanationText
explain_command = answering (form_of HasExplainForm IsWrongExplain) IsToldOf explain_output explain_status

-- a run of `explain`
abbrev pub RunsExplain : SourceRun → SinkRun → ℕ → Type 0
RunsExplain source sink status = RunsAnswer explain_command source sink status
