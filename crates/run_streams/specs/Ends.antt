-- How a command ends that reads its whole input: the status, what the source gave, and what was written.
use Rattle.std.specs.Prelude.{◌≡◌, ◌≢◌, ◌⊎◌, ◌≤◌, ℕ, List, [], Option, Some, None, length}
use Rattle.nx_io.specs.Streams.{Rose, one_more}
use Rattle.run_streams.specs.Runs.{IsProperPart, IsReadWhole, SinkRun, SourceRun, most_bytes}
use Rattle.run_streams.specs.declared.refusals.InputRefusal.{InputRefusal}
use Rattle.run_streams.specs.Refusals.{Form, IsRefusalOf, IsRefusedInput, RefusesExactly, refusal_text}

-- what a command is that writes one answer to its input: the form of its inputs, which answer an input has, what is written of an answer, and the
-- status that this has
pub record Answering (A : Type 0) : Type 1 where
  pub form : Form
  pub told : List ℕ → A → Type 0
  pub written : A → List ℕ
  pub status : A → ℕ

abbrev pub answering : {A : Type 0} → Form → (List ℕ → A → Type 0) → (A → List ℕ) → (A → ℕ) → Answering A
answering form told written status = record { form = form; told = told; written = written; status = status }

-- the answer is that to the bytes that the source gave, which have the form and are not too many, and it gave all
pub record IsAnswerOf {A : Type 0} (command : Answering A) (source : SourceRun) (answer : A) : Type 0 where
  pub small : length source.given ≤ most_bytes
  pub formed : command.form.formed source.given
  pub told : command.told source.given answer
  pub whole : IsReadWhole source

-- The answer to the input is written, or a proper part of it, since the sink failed, which is then the only failure of the run.
pub data EndsAnswered {A : Type 0} (command : Answering A) (source : SourceRun) (sink : SinkRun) (status : ℕ) : Type 0 where
  whole : (answer : A) → status ≡ command.status answer → IsAnswerOf command source answer → sink.sent ≡ command.written answer
      → source.faults_now ≡ source.faults → sink.faults_now ≡ sink.faults → EndsAnswered command source sink status
  cut_off : (answer : A) → status ≡ 5 → IsAnswerOf command source answer → IsProperPart sink.sent (command.written answer)
      → source.faults_now ≡ source.faults → sink.faults_now ≡ one_more sink.faults → EndsAnswered command source sink status

-- Nothing is answered to the input: its refusal is written, or a proper part of that, since the sink failed; or the source failed; or there was no memory. What
-- failed is the only failure of the run.
pub data EndsUnanswered (form : Form) (source : SourceRun) (sink : SinkRun) (status : ℕ) : Type 0 where
  refused : (refusal : InputRefusal) → status ≡ 3 → IsRefusalOf form source refusal → sink.sent ≡ refusal_text refusal
      → source.faults_now ≡ source.faults → sink.faults_now ≡ sink.faults → EndsUnanswered form source sink status
  refusal_cut_off : (refusal : InputRefusal) → status ≡ 5 → IsRefusalOf form source refusal → IsProperPart sink.sent (refusal_text refusal)
      → source.faults_now ≡ source.faults → sink.faults_now ≡ one_more sink.faults → EndsUnanswered form source sink status
  source_failed : status ≡ 4 → sink.sent ≡ [] → source.faults_now ≡ one_more source.faults → sink.faults_now ≡ sink.faults → EndsUnanswered form source sink status
  no_memory : status ≡ 6 → sink.sent ≡ [] → source.faults_now ≡ source.faults → sink.faults_now ≡ sink.faults → EndsUnanswered form source sink status

-- the input is answered, or not
abbrev pub EndsAnswer : {A : Type 0} → Answering A → SourceRun → SinkRun → ℕ → Type 0
EndsAnswer command source sink status = EndsAnswered command source sink status ⊎ EndsUnanswered command.form source sink status

-- where neither the source nor the sink failed, an input that is not refused is answered, or there was no memory
abbrev pub IsCompleteAnswer : {A : Type 0} → Answering A → SourceRun → SinkRun → ℕ → Type 0
IsCompleteAnswer {A = A} command source sink status =
    ¬ Rose source.faults source.faults_now → ¬ Rose sink.faults sink.faults_now → ¬ IsRefusedInput command.form source.given
    → (status ≡ 6) ⊎ ((answer : A) × IsAnswerOf command source answer × (status ≡ command.status answer) × (sink.sent ≡ command.written answer))

-- a run of the command
pub record RunsAnswer {A : Type 0} (command : Answering A) (source : SourceRun) (sink : SinkRun) (status : ℕ) : Type 0 where
  pub ends : EndsAnswer command source sink status
  pub complete : IsCompleteAnswer command source sink status
  pub refuses : RefusesExactly command.form source status

-- A run that ends with status 3 has written this refusal, and hands it on; and any other hands on none
abbrev pub HandsOn : Form → SourceRun → SinkRun → ℕ → Option InputRefusal → Type 0
HandsOn form source sink status (Some refusal) = (status ≡ 3) × IsRefusalOf form source refusal × (sink.sent ≡ refusal_text refusal)
HandsOn form source sink status None = status ≢ 3
