-- How a run of `serve` ends whose text is kept by a log: the log is sent the text of the policy, and the output a refusal alone.
use Rattle.std.specs.Prelude.{◌≡◌, ◌⊎◌, ◌∷◌, ◌++◌, [], ℕ, List, Bool, Option, Some}
use Rattle.nx_io.specs.DoorCalls.{faults_in}
use Rattle.nx_io.specs.Streams.{Grows, Rose, faults_after_reach}
use Rattle.nx_io.specs.Views.{DoorView, RecorderView, SinkView, sink_view}
use Rattle.nx_io.specs.declared.streams.Reach.{Reach}
use Rattle.nx_io.specs.declared.streams.Reach.TheVariants.{Ready, Failed}
use Rattle.nx_io.specs.declared.streams.Sink.{Ghosts as SinkGhosts}
use Rattle.line_log.specs.declared.logs.Log.{Ghosts as LogGhosts}
use Rattle.policy_history.specs.declared.events.Entry.{Entry}
use Rattle.policy_history.specs.declared.heads.Head.{Head}
use Rattle.policy_history.specs.Events.{EntryTree}
use Rattle.policy_history.specs.Values.{entry_trees}
use Rattle.authority_ask.specs.PanelCalls.{PanelHistory}
use Rattle.authority_ask.specs.PanelCalls as panels
use Rattle.nexus_serve.specs.declared.closing.ServeEnd.{ServeEnd}
use Rattle.nexus_serve.specs.Hosting.{Hosts, Plan}
use Rattle.run_streams.specs.Ends.{EndsUnanswered}
use Rattle.run_streams.specs.Refusals.{IsRefusedInput, RefusesExactly}
use Rattle.run_streams.specs.Runs.{SourceRun}
use Rattle.service_commands.specs.Services.{EndedView, HasFailedToRecord, IsPolicyOf, IsServedWhole, IsUnbegun, IsUnserved, hosted_of, most_session, policy_form, sink_between}

-- what a log tells that was asked to be reached: it was sent nothing, and has failed once more where it could not be
abbrev pub asked_to_reach : Reach → SinkView → SinkView
asked_to_reach reach log = record { sent = log.sent; synced = log.synced; faults = faults_after_reach reach log.faults }

-- A log was asked once to be reached, at this address, and this is how it went
pub record WasAsked {J : Type 0} (sink : SinkGhosts J) (teller : LogGhosts J) (log : J) (address : List ℕ) (reach : Reach) (log_then : J) : Type 0 where
  pub asked : teller.asked log_then ≡ teller.asked log ++ address ∷ []
  pub view : sink_view sink log_then ≡ asked_to_reach reach (sink_view sink log)

-- a log, and where it is to be reached
pub record LogAt (J : Type 0) : Type 1 where
  pub sink : SinkGhosts J
  pub teller : LogGhosts J
  pub log : J
  pub address : List ℕ

-- The run ends so; what is handed back as its sink is the log. A policy was read, and the log was asked once to be reached: where it was, the policy was hosted over it by the plan, and where it
-- could not be, nothing was begun; the output is as it was. Or nobody is served for the input, nothing was begun, and the log is as it was. A failure of the source or the output that ends it before
-- it is hosted is the only one.
pub data EndsLogged {P C J : Type 0} (panel : P → PanelHistory) (plan : Plan) (source : SourceRun) (output output_now : SinkView) (at : LogAt J) (door : DoorView) (asked : P) (recorder : Option RecorderView) (ended : EndedView P C) : Type 0 where
  hosted : (log_then : J) (h : Head) (opening : List Entry) (written : Bool) (end : ServeEnd) → IsPolicyOf source (most_session plan) h (entry_trees opening) → source.faults_now ≡ source.faults
      → output_now ≡ output → WasAsked at.sink at.teller at.log at.address Ready log_then → Hosts panel plan h opening (sink_view at.sink log_then) door asked recorder (hosted_of ended written end)
      → EndsLogged panel plan source output output_now at door asked recorder ended
  unreached : (log_now : J) (h : Head) (opening : List EntryTree) → IsPolicyOf source (most_session plan) h opening → source.faults_now ≡ source.faults → output_now ≡ output
      → WasAsked at.sink at.teller at.log at.address Failed log_now → IsUnbegun door asked recorder ended → ended.output ≡ Some (sink_view at.sink log_now) → ended.status ≡ 5
      → EndsLogged panel plan source output output_now at door asked recorder ended
  unbegun : IsUnbegun door asked recorder ended → ended.output ≡ Some (sink_view at.sink at.log) → Grows output.sent output_now.sent → ((ended.status ≡ 4) ⊎ (ended.status ≡ 6) → output_now ≡ output)
      → EndsUnanswered (policy_form (most_session plan)) source (sink_between output output_now) ended.status
      → EndsLogged panel plan source output output_now at door asked recorder ended

-- Where neither the source nor the output nor the log failed, nor the door, the panel or the recorder as the service was made ready, an input that is not refused is served, and its text was
-- sent to the log whole; or there was no memory to begin with.
abbrev pub IsCompleteLogged : {P C : Type 0} → (P → PanelHistory) → Plan → SourceRun → SinkView → SinkView → SinkView → DoorView → P → Option RecorderView → EndedView P C → Type 0
IsCompleteLogged panel plan source output output_now log door asked recorder ended =
    ¬ Rose source.faults source.faults_now → ¬ Rose output.faults output_now.faults → ((log_now : SinkView) → ended.output ≡ Some log_now → ¬ Rose log.faults log_now.faults)
    → ¬ Rose (faults_in door.calls) (faults_in ended.door.calls) → ¬ Rose (panels.faults_in (panel asked).calls) (panels.faults_in (panel ended.panel).calls)
    → ¬ HasFailedToRecord recorder ended.recorder → ¬ IsRefusedInput (policy_form (most_session plan)) source.given
    → IsUnserved log ended ⊎ IsServedWhole panel plan source log door asked recorder ended

-- a run of `serve` whose text is kept by a log
pub record RunsLogged {P C J : Type 0} (panel : P → PanelHistory) (plan : Plan) (source : SourceRun) (output output_now : SinkView) (at : LogAt J) (door : DoorView) (asked : P) (recorder : Option RecorderView) (ended : EndedView P C) : Type 0 where
  pub ends : EndsLogged panel plan source output output_now at door asked recorder ended
  pub complete : IsCompleteLogged panel plan source output output_now (sink_view at.sink at.log) door asked recorder ended
  pub refuses : RefusesExactly (policy_form (most_session plan)) source ended.status
