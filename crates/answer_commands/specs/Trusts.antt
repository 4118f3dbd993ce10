-- The command `trust`: what it answers, what is written of it, and its status.
use Rattle.std.specs.Prelude.{◌∷◌, ◌++◌, ℕ, List, [], codes}
use Rattle.trust_check.specs.declared.answers.Trust.{Trust}
use Rattle.trust_check.specs.declared.answers.Trust.TheVariants.{Safe, Label, Goal}
use Rattle.trust_form.specs.Answers.{IsTold, trust_text}
use Rattle.trust_form.specs.TrustForm.{TrustForm, IsTrustForm, IsWrongLine}
use Rattle.run_streams.specs.Flaws.{FlawTree}
use Rattle.input_flaws.specs.LineFlaws.{IsFlawAt}
use Rattle.run_streams.specs.Runs.{SinkRun, SourceRun}
use Rattle.run_streams.specs.Ends.{Answering, RunsAnswer, answering}
use Rattle.run_streams.specs.Refusals.{form_of}

-- the text has the form of an input of `trust`
abbrev pub HasTrustForm : List ℕ → Type 0
HasTrustForm text = (form : TrustForm) × IsTrustForm text form

-- behind which words a formula stands in a line
abbrev pub formula_words : List (List ℕ)
formula_words = codes "label " ∷ codes "fact " ∷ codes "goal " ∷ []

-- and behind which one a term
abbrev pub term_words : List (List ℕ)
term_words = codes "untrusted " ∷ []

-- line k is the lowest that is wrong, and this is wrong with it
abbrev pub IsWrongTrust : List ℕ → ℕ → FlawTree → Type 0
IsWrongTrust text k flaw = IsWrongLine text k × IsFlawAt formula_words term_words text k flaw

-- the line that is written of an answer
abbrev pub trust_output : Trust → List ℕ
trust_output answer = trust_text answer ++ 10 ∷ []

-- 0 exactly where all is safe
abbrev pub trust_status : Trust → ℕ
trust_status Safe = 0
trust_status (Label k) = 1
trust_status Goal = 1

abbrev pub trust_command : Answering Trust
trust_command = answering (form_of HasTrustForm IsWrongTrust) IsTold trust_output trust_status

-- a run of `trust`
abbrev pub RunsTrust : SourceRun → SinkRun → ℕ → Type 0
RunsTrust source sink status = RunsAnswer trust_command source sink status
