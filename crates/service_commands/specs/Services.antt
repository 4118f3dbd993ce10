-- How a run of `serve` ends: the status, what the source gave, what is handed back, and what was written.
use Rattle.std.specs.Prelude.{◌≡◌, ◌≢◌, ◌*◌, ◌+◌, ◌-◌, ◌^◌, ◌⊎◌, ◌≤◌, ◌∷◌, ℕ, List, [], length, codes, map, option_map, Bool, true, false, Option, Some, None}
use Rattle.nx_io.specs.Views.{DoorView, RecorderView, SinkView, door_view, recorder_view, sink_view}
use Rattle.nx_io.specs.declared.doors.Door.{Ghosts as DoorGhosts}
use Rattle.nx_io.specs.declared.links.Link.{Ghosts as LinkGhosts}
use Rattle.nx_io.specs.declared.recorders.Recorder.{Ghosts as RecorderGhosts}
use Rattle.nx_io.specs.declared.streams.Sink.{Ghosts as SinkGhosts}
use Rattle.nal_term.specs.Secrets.{IsSecret}
use Rattle.nx_io.specs.DoorCalls.{faults_in}
use Rattle.nx_io.specs.Streams.{Grows, Rose, gained}
use Rattle.policy_history.specs.declared.events.Entry.{Entry}
use Rattle.policy_history.specs.declared.heads.Head.{Head}
use Rattle.policy_history.specs.Events.{EntryTree}
use Rattle.policy_history.specs.Values.{History, entry_trees}
use Rattle.journal_text.specs.PolicyFronts.{IsFront, IsWrongFront}
use Rattle.input_flaws.specs.PolicyFlaws.{IsFrontFlaw}
use Rattle.verdict_words.specs.Settling.{flat}
use Rattle.nexus_serve.specs.declared.closing.ServeEnd.{ServeEnd}
use Rattle.nexus_serve.specs.declared.means.Means.{Means}
use Rattle.nexus_serve.specs.Means.{means_history}
use Rattle.authority_ask.specs.PanelCalls.{PanelHistory}
use Rattle.authority_ask.specs.PanelCalls as panels
use Rattle.nexus_serve.specs.Views.{ReportView}
use Rattle.nexus_serve.specs.Services.{Serves}
use Rattle.nexus_serve.specs.Hosting.{AreReady, HostedView, Hosts, Plan, some_cut_off, status_of}
use Rattle.run_streams.specs.Ends.{EndsUnanswered}
use Rattle.run_streams.specs.Refusals.{Form, IsRefusedInput, RefusesExactly, form_of}
use Rattle.run_streams.specs.Runs.{IsReadWhole, SinkRun, SourceRun, most_bytes, sink_run}
use Rattle.run_streams.specs.declared.refusals.InputRefusal.{InputRefusal}

-- an address: 1 to 64 visible bytes that are not `help` and do not begin with `-`
pub record IsAddress (address : List ℕ) : Type 0 where
  pub visible : IsSecret address
  pub no_help : address ≢ codes "help"
  pub no_option : (rest : List ℕ) → address ≢ 45 ∷ rest

-- a patience, in seconds, is within its bounds
abbrev pub IsPatience : ℕ → Type 0
IsPatience seconds = (1 ≤ seconds) × (seconds ≤ 86400)

-- the patience of a service, in seconds, where it is said and where it is not
abbrev pub patience_in : Option ℕ → ℕ
patience_in None = 300
patience_in (Some seconds) = seconds

-- a service is within the bounds
pub record IsService (address : List ℕ) (workers sessions : ℕ) (patience : Option ℕ) : Type 0 where
  pub address_is : IsAddress address
  pub workers_are : (1 ≤ workers) × (workers ≤ 1024)
  pub sessions_are : (1 ≤ sessions) × (sessions ≤ 65536)
  pub patience_is : IsPatience (patience_in patience)

-- it is handed back, and this holds of it
abbrev pub HandsBack : {K : Type 0} → Option K → (K → Type 0) → Type 0
HandsBack None Property = ⊥
HandsBack (Some k) Property = Property k

-- it, where this is so, and else nothing
abbrev pub only_where : {A : Type 0} → Bool → Option A → Option A
only_where true it = it
only_where false it = None

-- the greatest number that a session of the policy's entries may have, so that there are numbers for all sessions of the service
abbrev pub most_session : Plan → ℕ
most_session plan = 2 ^ 64 - 2 - plan.workers * plan.sessions

-- the text is that of a policy with this head and these entries, in which no session has a greater number than this
abbrev pub IsPolicy : ℕ → List ℕ → Head → List EntryTree → Type 0
IsPolicy most text h es = (length text ≤ most_bytes) × ((n : ℕ) × IsFront most text h es n [])

-- line k is the lowest that is wrong: one of the policy's, or the first behind it
pub data IsWrongPolicy (most : ℕ) (text : List ℕ) (k : ℕ) : Type 0 where
  in_policy : IsWrongFront most text k → IsWrongPolicy most text k
  behind : {n : ℕ} {h : Head} {es : List EntryTree} {rest : List ℕ} → IsFront most text h es n rest → rest ≢ [] → k ≡ n + 1 → IsWrongPolicy most text k

-- the form of the policies in which no session has a greater number than this; and of another text the lowest wrong line, and what is wrong with it
abbrev pub policy_form : ℕ → Form
policy_form most = form_of (λ text. (h : Head) × (es : List EntryTree) × IsPolicy most text h es) (λ text k flaw. IsWrongPolicy most text k × IsFrontFlaw most text text k flaw)

-- the input is that of this policy
pub record IsPolicyOf (source : SourceRun) (most : ℕ) (h : Head) (es : List EntryTree) : Type 0 where
  pub form : IsPolicy most source.given h es
  pub whole : IsReadWhole source

-- what the program hands back behind a service
pub record EndedView (P C : Type 0) : Type 0 where
  pub status : ℕ
  pub output : Option SinkView
  pub journal : Option History
  pub reports : List ReportView
  pub door : DoorView
  pub doors : List DoorView
  pub panel : P
  pub recorder : Option RecorderView
  pub means : List (Means P C)

-- what the program hands back, where its objects are told as they are: why its input was refused; the sink, and the one for records, where they are there; the link that was
-- dialed, if any; the shares of the door that were made, and what the workers of a service had
pub record EndedValue (K C D L P : Type 0) : Type 0 where
  pub status : ℕ
  pub refusal : Option InputRefusal
  pub output : Option K
  pub records : Option C
  pub journal : Option History
  pub reports : List (List ReportView)
  pub dialed : Option L
  pub door : D
  pub doors : List D
  pub panel : P
  pub means : List (Means P C)

-- the same behind a service, by what its objects tell
abbrev pub ended_view : {K C D L P : Type 0} → SinkGhosts K → SinkGhosts C → RecorderGhosts C → DoorGhosts D L → LinkGhosts L → EndedValue K C D L P → EndedView P C
ended_view output records recorder door link ended = record {
  status = ended.status;
  output = option_map (sink_view output) ended.output;
  journal = ended.journal;
  reports = flat ended.reports;
  door = door_view door link ended.door;
  doors = map (door_view door link) ended.doors;
  panel = ended.panel;
  recorder = option_map (recorder_view records recorder) ended.records;
  means = ended.means;
}

-- the same as what a service at an address hands back, whose text was written whole or not, and which ended so
abbrev pub hosted_of : {P C : Type 0} → EndedView P C → Bool → ServeEnd → HostedView P C
hosted_of ended written end = record {
  status = ended.status;
  door = ended.door;
  panel = ended.panel;
  recorder = ended.recorder;
  served = record {
    journal = ended.journal;
    sink = ended.output;
    reports = ended.reports;
    doors = ended.doors;
    means = ended.means;
    written = written;
    end = end;
  };
}

-- nothing was begun: door, panel and recorder are as they were, and there is no journal and no report
pub record IsUnbegun {P C : Type 0} (door : DoorView) (panel : P) (recorder : Option RecorderView) (ended : EndedView P C) : Type 0 where
  pub journal : ended.journal ≡ None
  pub reports : ended.reports ≡ []
  pub door_is : ended.door ≡ door
  pub doors : ended.doors ≡ []
  pub panel_is : ended.panel ≡ panel
  pub recorder_is : ended.recorder ≡ recorder
  pub means : ended.means ≡ []

-- what a sink was sent between two views of it, and how often it failed
abbrev pub sink_between : SinkView → SinkView → SinkRun
sink_between before now = record { sent = gained before.sent now.sent; faults = before.faults; faults_now = now.faults }

-- a sink in a run that hands it back, or not
abbrev pub sink_behind : {K : Type 0} → SinkGhosts K → K → Option K → SinkRun
sink_behind sink before (Some now) = sink_run sink before now
sink_behind sink before None = sink_run sink before before

-- `serve` ends so: a policy was read, and hosted by the plan; or nobody is served for the input, nothing was begun, and the sink is handed back, as it was where the source failed or
-- memory ran out. A failure of the source or the sink that ends it before it is hosted is the only one.
pub data EndsService {P C : Type 0} (panel : P → PanelHistory) (plan : Plan) (source : SourceRun) (sink : SinkView) (door : DoorView) (asked : P) (recorder : Option RecorderView) (ended : EndedView P C) : Type 0 where
  hosted : (h : Head) (opening : List Entry) (written : Bool) (end : ServeEnd) → IsPolicyOf source (most_session plan) h (entry_trees opening) → source.faults_now ≡ source.faults
      → Hosts panel plan h opening sink door asked recorder (hosted_of ended written end) → EndsService panel plan source sink door asked recorder ended
  unbegun : (sink_now : SinkView) → IsUnbegun door asked recorder ended → ended.output ≡ Some sink_now → Grows sink.sent sink_now.sent → ((ended.status ≡ 4) ⊎ (ended.status ≡ 6) → sink_now ≡ sink)
      → EndsUnanswered (policy_form (most_session plan)) source (sink_between sink sink_now) ended.status → EndsService panel plan source sink door asked recorder ended

-- There was no memory to begin with: nobody was served, and nothing was written
pub record IsUnserved {P C : Type 0} (sink : SinkView) (ended : EndedView P C) : Type 0 where
  pub status : ended.status ≡ 6
  pub reports : ended.reports ≡ []
  pub output : ended.output ≡ Some sink

-- A policy was read and served by the plan, and this is how: its whole text was written, and the journal and all reports are handed back. The status
-- is 7 where a door has failed in a worker; or else 6 where a worker had no memory for one more session; or else 5 where the record of a call was cut
-- off; and 0 where there was nothing of this
pub record IsServedWhole {P C : Type 0} (panel : P → PanelHistory) (plan : Plan) (source : SourceRun) (sink : SinkView) (door : DoorView) (asked : P) (recorder : Option RecorderView) (ended : EndedView P C) : Type 0 where
  pub head : Head
  pub opening : List Entry
  pub end : ServeEnd
  pub doors : List DoorView
  pub means : List (Means P C)
  pub policy : IsPolicyOf source (most_session plan) head (entry_trees opening)
  pub ready : AreReady panel plan head door ended.door (panel asked) (panel ended.panel) recorder ended.recorder doors means
  pub serves : Serves (means_history panel) plan.sessions head opening sink doors means (hosted_of ended true end).served
  pub status : ended.status ≡ status_of true end (some_cut_off ended.means)

-- a recorder has failed, by its own count
abbrev pub HasFailedToRecord : Option RecorderView → Option RecorderView → Type 0
HasFailedToRecord (Some recorder) (Some recorder_now) = Rose recorder.faults recorder_now.faults
HasFailedToRecord _ _ = ⊥

-- Where neither the source nor the sink failed, nor the door, the panel or the recorder as the service was made ready, an input that is not refused is
-- served, and its text is written whole; or there was no memory to begin with.
abbrev pub IsCompleteService : {P C : Type 0} → (P → PanelHistory) → Plan → SourceRun → SinkView → DoorView → P → Option RecorderView → EndedView P C → Type 0
IsCompleteService panel plan source sink door asked recorder ended =
    ¬ Rose source.faults source.faults_now → ((sink_now : SinkView) → ended.output ≡ Some sink_now → ¬ Rose sink.faults sink_now.faults) → ¬ Rose (faults_in door.calls) (faults_in ended.door.calls)
    → ¬ Rose (panels.faults_in (panel asked).calls) (panels.faults_in (panel ended.panel).calls) → ¬ HasFailedToRecord recorder ended.recorder → ¬ IsRefusedInput (policy_form (most_session plan)) source.given
    → IsUnserved sink ended ⊎ IsServedWhole panel plan source sink door asked recorder ended

-- a run of `serve`
pub record RunsService {P C : Type 0} (panel : P → PanelHistory) (plan : Plan) (source : SourceRun) (sink : SinkView) (door : DoorView) (asked : P) (recorder : Option RecorderView) (ended : EndedView P C) : Type 0 where
  pub ends : EndsService panel plan source sink door asked recorder ended
  pub complete : IsCompleteService panel plan source sink door asked recorder ended
  pub refuses : RefusesExactly (policy_form (most_session plan)) source ended.status
