-- What a run of the program promises: what the command of its words does, what only grows, and what it leaves alone.
use Rattle.std.specs.Prelude.{◌≡◌, ◌≢◌, ◌⊎◌, ℕ, Bool, false, List, [], Option, None, Some, length, option_map}
use Rattle.nx_io.specs.Streams.{Grows, gained}
use Rattle.nx_io.specs.Views.{HasGiven, door_view, link_view, recorder_view, sink_view}
use Rattle.nx_io.specs.declared.doors.Door.{Ghosts as DoorGhosts}
use Rattle.nx_io.specs.declared.links.Link.{Ghosts as LinkGhosts}
use Rattle.nx_io.specs.declared.recorders.Recorder.{Ghosts as RecorderGhosts}
use Rattle.nx_io.specs.declared.streams.Sink.{Ghosts as SinkGhosts}
use Rattle.nx_io.specs.declared.streams.Source.{Ghosts as SourceGhosts}
use Rattle.line_log.specs.declared.logs.Log.{Ghosts as LogGhosts}
use Rattle.authority_ask.specs.PanelCalls.{PanelHistory}
use Rattle.told_records.specs.Audited.{AreAudited}
use Rattle.nexus_serve.specs.Hosting.{Plan, kept_of}
use Rattle.run_streams.specs.Runs.{sink_run, source_run}
use Rattle.nexus_client.specs.declared.inputs.TalkInput.{TalkInput}
use Rattle.script_command.specs.Scripts.{HasMore, panel_run}
use Rattle.service_commands.specs.Clients.{RunsClient}
use Rattle.service_commands.specs.Logged.{LogAt, RunsLogged}
use Rattle.service_commands.specs.Services.{EndedValue, HandsBack, IsAddress, IsService, RunsService, ended_view, only_where, patience_in}
use Rattle.nexus_run.specs.declared.commands.Command.{Command}
use Rattle.nexus_run.specs.Commanded.{RunsCommand}
use Rattle.nexus_run.specs.Commands.{IsLoggedCall, IsRecordedCall, IsServiceCall, IsTalkCall, IsWithin, command_words, compact_words, core_words, drill_words, logged_words, script_words, serve_words, talk_words}

-- the ghost members by which the objects that a run is handed tell what they did
pub record Tellers (S K C D L P : Type 0) : Type 1 where
  pub source : SourceGhosts S
  pub output : SinkGhosts K
  pub records : SinkGhosts C
  pub recorder : RecorderGhosts C
  pub door : DoorGhosts D L
  pub link : LinkGhosts L
  pub panel : P → PanelHistory

abbrev pub told_by : {S K C D L P : Type 0} → SourceGhosts S → SinkGhosts K → SinkGhosts C → RecorderGhosts C → DoorGhosts D L → LinkGhosts L
    → (P → PanelHistory) → Tellers S K C D L P
told_by source output records recorder door link panel = record {
  source = source;
  output = output;
  records = records;
  recorder = recorder;
  door = door;
  link = link;
  panel = panel;
}

-- what a run is handed, beside the log
pub record Handed (S K C D P : Type 0) : Type 0 where
  pub input : S
  pub output : K
  pub records : C
  pub door : D
  pub panel : P

-- What the command of these words does, over what it was handed: one that is neither a service nor a talk, a talk, or a service. `input_now` is the
-- source behind the run, and `after` what is handed back
pub record DoesCommand {S K C D L P : Type 0} (t : Tellers S K C D L P) (words : List (List ℕ)) (before : Handed S K C D P) (input_now : S) (after : EndedValue K C D L P) : Type 0 where
  pub plain : (command : Command) → words ≡ command_words command → IsWithin command
      → HandsBack after.output (λ k. HandsBack after.records (λ r. RunsCommand command (source_run t.source before.input input_now)
      (sink_run t.output before.output k) (sink_run t.records before.records r)
      (t.output.synced k ≡ length (t.output.sent k)) (panel_run (t.panel before.panel) (t.panel after.panel)) after.journal after.status))
  pub talk : (talk : TalkInput) (address : List ℕ) → words ≡ talk_words talk address → IsAddress address
      → HandsBack after.output (λ k. RunsClient talk address (source_run t.source before.input input_now) (sink_run t.output before.output k)
      (door_view t.door t.link before.door) (door_view t.door t.link after.door) (option_map (link_view t.link) after.dialed) after.status)
  pub serve : (address : List ℕ) (workers sessions : ℕ) (patience : Option ℕ) (recorded : Bool)
      → words ≡ serve_words address workers sessions patience recorded → IsService address workers sessions patience
      → RunsService t.panel (record { address = address; workers = workers; sessions = sessions; patience = patience_in patience })
      (source_run t.source before.input input_now) (sink_view t.output before.output) (door_view t.door t.link before.door) before.panel
      (only_where recorded (Some (recorder_view t.records t.recorder before.records)))
      (record (ended_view t.output t.records t.recorder t.door t.link after) { recorder = only_where recorded (option_map (recorder_view t.records t.recorder) after.records) })

-- What they tell of their calls only grows: what the source gave, what the sinks were sent, and the calls of the panel
pub record OnlyGrows {S K C D L P : Type 0} (t : Tellers S K C D L P) (words : List (List ℕ)) (before : Handed S K C D P) (input_now : S) (after : EndedValue K C D L P) : Type 0 where
  pub gave : HasGiven t.source before.input input_now
  pub sent : ¬ IsServiceCall words → HandsBack after.output (λ k. Grows (t.output.sent before.output) (t.output.sent k))
  pub recorded : HandsBack after.records (λ r. Grows (t.records.sent before.records) (t.records.sent r))
  pub asked : HasMore (t.panel before.panel) (t.panel after.panel)

-- What the command of these words does not use is left alone
pub record LeavesAlone {S K C D L P : Type 0} (words : List (List ℕ)) (before : Handed S K C D P) (input_now : S) (after : EndedValue K C D L P) : Type 0 where
  -- the source by the loads
  pub by_core : (number steps : ℕ) → words ≡ core_words number steps → input_now ≡ before.input
  pub by_drill : (number workers calls : ℕ) → words ≡ drill_words number workers calls → input_now ≡ before.input
  -- the sink with 4 and 6, but by a service, and by a talk that dialed
  pub unwritten : ¬ IsServiceCall words → after.dialed ≡ None → (after.status ≡ 4) ⊎ (after.status ≡ 6) → HandsBack after.output (λ k. k ≡ before.output)
  -- the records by all but `compact` and a service whose calls are recorded
  pub unrecorded : words ≢ compact_words → ¬ IsRecordedCall words → HandsBack after.records (λ r. r ≡ before.records)
  -- the door by all but services and talks, and by a talk that dialed nothing, unless it failed in that
  pub door : ¬ IsServiceCall words → ¬ IsTalkCall words → after.door ≡ before.door
  pub undialed : ¬ IsServiceCall words → after.dialed ≡ None → after.status ≢ 7 → after.door ≡ before.door
  -- the panel by all but `script` and services, and then there is no journal
  pub panel : words ≢ script_words → ¬ IsServiceCall words → (after.panel ≡ before.panel) × (after.journal ≡ None)
  -- only a talk hands back a link, and only a service reports, doors and means
  pub dialed : ¬ IsTalkCall words → after.dialed ≡ None
  pub workers : ¬ IsServiceCall words → (after.reports ≡ []) × (after.doors ≡ []) × (after.means ≡ [])

-- `Runs t words before input_now after`: a run with these words over what it was handed, the source being so behind it, and this being handed back
pub record Runs {S K C D L P : Type 0} (t : Tellers S K C D L P) (words : List (List ℕ)) (before : Handed S K C D P) (input_now : S) (after : EndedValue K C D L P) : Type 0 where
  pub command : DoesCommand t words before input_now after
  pub grows : OnlyGrows t words before input_now after
  pub alone : LeavesAlone words before input_now after

-- What a run of `serve` promises whose text is kept by a log: of these words, over what it was handed and this log
pub record ServesLogged {S K C D L P J : Type 0} (t : Tellers S K C D L P) (plan : Plan) (recorded : Bool) (before : Handed S K C D P) (at : LogAt J) (input_now : S) (after : EndedValue K C D L P) (log_now : Option J) : Type 0 where
  pub runs : HandsBack after.output (λ k. RunsLogged t.panel plan (source_run t.source before.input input_now) (sink_view t.output before.output) (sink_view t.output k) at
      (door_view t.door t.link before.door) before.panel (only_where recorded (Some (recorder_view t.records t.recorder before.records)))
      (record (ended_view t.output t.records t.recorder t.door t.link after) { output = option_map (sink_view at.sink) log_now; recorder = only_where recorded (option_map (recorder_view t.records t.recorder) after.records) }))
  pub gave : HasGiven t.source before.input input_now
  pub asked : HasMore (t.panel before.panel) (t.panel after.panel)
  pub recorded_grows : HandsBack after.records (λ r. Grows (t.records.sent before.records) (t.records.sent r))
  pub unrecorded : recorded ≡ false → HandsBack after.records (λ r. r ≡ before.records)
  pub undialed : after.dialed ≡ None
  pub audited : HandsBack log_now (λ l. AreAudited (at.sink.faults at.log) (at.sink.faults l) (gained (at.sink.sent at.log) (at.sink.sent l)) (kept_of after.means))

-- Such a run, where these are the words of one
abbrev pub RunsWithLog : {S K C D L P J : Type 0} → Tellers S K C D L P → SinkGhosts J → LogGhosts J → List (List ℕ) → Handed S K C D P → J → S → EndedValue K C D L P → Option J → Type 0
RunsWithLog t sink teller words before log input_now after log_now =
    (address : List ℕ) (workers sessions : ℕ) (patience : Option ℕ) (recorded : Bool) (log_address : List ℕ) → words ≡ logged_words address workers sessions patience recorded log_address
    → IsService address workers sessions patience → IsAddress log_address
    → ServesLogged t (record { address = address; workers = workers; sessions = sessions; patience = patience_in patience }) recorded before (record { sink = sink; teller = teller; log = log; address = log_address }) input_now after log_now

-- What a run with these words promises over what it was handed and this log: where its text is kept by no log, the log is left alone, and its output can be audited
pub record RunsProgram {S K C D L P J : Type 0} (t : Tellers S K C D L P) (sink : SinkGhosts J) (teller : LogGhosts J) (words : List (List ℕ)) (before : Handed S K C D P) (log : J) (input_now : S) (after : EndedValue K C D L P) (log_now : Option J) : Type 0 where
  pub unlogged : ¬ IsLoggedCall words → Runs t words before input_now after × HandsBack log_now (λ l. l ≡ log)
  pub audited : ¬ IsLoggedCall words
      → HandsBack after.output (λ k. AreAudited (t.output.faults before.output) (t.output.faults k) (gained (t.output.sent before.output) (t.output.sent k)) (kept_of after.means))
  pub logged : RunsWithLog t sink teller words before log input_now after log_now
