-- The command `prove`: what it answers, what is written of it, and its status.
use Rattle.std.specs.Prelude.{◌∷◌, ◌++◌, ℕ, List, [], Option, None, Some, codes}
use Rattle.proof_lines.specs.Lines.{LineTree}
use Rattle.prove_form.specs.Answers.{IsTold, found_text}
use Rattle.prove_form.specs.ProveForm.{ProveForm, IsProveForm, IsWrongLine}
use Rattle.run_streams.specs.Flaws.{FlawTree}
use Rattle.input_flaws.specs.LineFlaws.{IsFlawAt}
use Rattle.run_streams.specs.Runs.{SinkRun, SourceRun}
use Rattle.run_streams.specs.Ends.{Answering, RunsAnswer, answering}
use Rattle.run_streams.specs.Refusals.{form_of}

-- the text has the form of an input of `prove`
abbrev pub HasProveForm : List ℕ → Type 0
HasProveForm text = (form : ProveForm) × IsProveForm text form

-- behind which words a formula stands in a line
abbrev pub formula_words : List (List ℕ)
formula_words = codes "label " ∷ codes "goal " ∷ []

-- line k is the lowest that is wrong, and this is wrong with it
abbrev pub IsWrongProve : List ℕ → ℕ → FlawTree → Type 0
IsWrongProve text k flaw = IsWrongLine text k × IsFlawAt formula_words [] text k flaw

-- the line that is written of what was found: the canonical text of the proof, or `no chain`
abbrev pub prove_output : Option (List LineTree) → List ℕ
prove_output found = found_text found ++ 10 ∷ []

-- 1 exactly where there is no chain
abbrev pub prove_status : Option (List LineTree) → ℕ
prove_status None = 1
prove_status (Some lines) = 0

abbrev pub prove_command : Answering (Option (List LineTree))
prove_command = answering (form_of HasProveForm IsWrongProve) IsTold prove_output prove_status

-- a run of `prove`
abbrev pub RunsProve : SourceRun → SinkRun → ℕ → Type 0
RunsProve source sink status = RunsAnswer prove_command source sink status
