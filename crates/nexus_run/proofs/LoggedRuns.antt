-- What a run of `serve` promises whose text is kept by a log.
use Rattle.std.proofs.Common.{◌≡◌, ◌≤◌, ◌*◌, ◌-◌, ◌^◌, Bool, List, Option, None, Some, refl, ap}
use Rattle.std.specs.Prelude.{option_map}
use Rattle.nx_io.specs.Views.{DoorView, HasGiven, RecorderView, SinkView, door_view, recorder_view, sink_view}
use Rattle.run_streams.specs.Runs.{SourceRun, source_run}
use Rattle.authority_ask.specs.PanelCalls.{PanelHistory}
use Rattle.script_command.specs.Scripts.{HasMore}
use Rattle.script_command.proofs.ForCallers.{more_nothing}
use Rattle.policy_history.specs.declared.events.Entry.{Entry}
use Rattle.policy_history.specs.declared.heads.Head.{Head}
use Rattle.nexus_serve.specs.Hosting.{Plan}
use Rattle.nexus_serve.specs.Services.{IsJournal}
use Rattle.nexus_serve.specs.TrueReports.{asked_by}
use Rattle.service_commands.specs.Logged.{EndsLogged, LogAt, RunsLogged}
use Rattle.service_commands.specs.Logged as logged
use Rattle.service_commands.specs.Services.{EndedValue, EndedView, ended_view, only_where}
use Rattle.service_commands.specs.Services as service
use Rattle.service_commands.proofs.ForCallers.{aside_back, beside, handed_audited, logged_audited, logged_unsent, runs_logged, sink_back, sink_of}
use Rattle.nexus_run.specs.Runs.{Handed, ServesLogged, Tellers}
use Rattle.nexus_run.proofs.Recordings.{grows_same}
use Rattle.nexus_run.proofs.Running.{handed}
use Rattle.nexus_run.proofs.ServiceAsks.{service_more}
use Rattle.nexus_run.proofs.TrueRuns.{AreTrueReports, no_journal, service_true}

-- what such a service calls of the panel stands behind what was called of it before
logged_more : {P C J : Type 0} {panel : P → PanelHistory} {plan : Plan} {source : SourceRun} {output output_now : SinkView} {at : LogAt J} {door : DoorView} {asked : P} {recorder : Option RecorderView} {ended : EndedView P C}
    → EndsLogged panel plan source output output_now at door asked recorder ended → HasMore (panel asked) (panel ended.panel)
logged_more (logged.hosted log_then h opening written end policy still same was hosts) = service_more (service.hosted h opening written end policy still hosts)
logged_more {panel = panel} (logged.unreached log_now h opening policy still same was idle log_is status) = more_nothing (ap panel idle.panel_is)
logged_more {panel = panel} (logged.unbegun idle log_is grows kept ends) = more_nothing (ap panel idle.panel_is)

-- and its reports are true
pub logged_true : {P C J : Type 0} {panel : P → PanelHistory} {plan : Plan} {source : SourceRun} {output output_now : SinkView} {at : LogAt J} {door : DoorView} {asked : P} {recorder : Option RecorderView} {ended : EndedView P C} (h : Head) (es : List Entry)
    → EndsLogged panel plan source output output_now at door asked recorder ended → IsJournal ended.journal h es → AreTrueReports h es (asked_by panel ended.means) ended.reports
logged_true h es (logged.hosted log_then head opening written end policy still same was hosts) is = service_true h es (service.hosted head opening written end policy still hosts) is
logged_true h es (logged.unreached log_now head opening policy still same was idle log_is status) is = absurd (no_journal _ h es idle.journal is)
logged_true h es (logged.unbegun idle log_is grows kept ends) is = absurd (no_journal _ h es idle.journal is)

-- what is handed back beside the output, where the log stands in its place
abbrev pub beside_output : {K J C D L P : Type 0} → EndedValue J C D L P → K → EndedValue K C D L P
beside_output ended output = record {
  status = ended.status;
  refusal = ended.refusal;
  output = Some output;
  records = ended.records;
  journal = ended.journal;
  reports = ended.reports;
  dialed = ended.dialed;
  door = ended.door;
  doors = ended.doors;
  panel = ended.panel;
  means = ended.means;
}

module _ {S K C D L P J : Type 0} (t : Tellers S K C D L P) (before : Handed S K C D P) (at : LogAt J) (input_now : S) (plan : Plan) (recording : Bool) where
  abbrev view : C → RecorderView
  view = recorder_view t.records t.recorder

  pub serves_logged : (ended : EndedValue J C D L P) (output_now : K) → HasGiven t.source before.input input_now → ended.dialed ≡ None → plan.workers * plan.sessions ≤ 2 ^ 64 - 2
      → EndsLogged t.panel plan (source_run t.source before.input input_now) (sink_view t.output before.output) (sink_view t.output output_now) at (door_view t.door t.link before.door) before.panel
      (option_map view (only_where recording (Some before.records))) (ended_view at.sink t.records t.recorder t.door t.link ended)
      → ServesLogged t plan recording before at input_now (beside_output (record ended { records = sink_of recording before.records ended.records }) output_now) ended.output
  serves_logged ended output_now gave undialed few ends =
      let source : SourceRun = source_run t.source before.input input_now in
      let output : SinkView = sink_view t.output before.output in
      let now : SinkView = sink_view t.output output_now in
      let door : DoorView = door_view t.door t.link before.door in
      let told : EndedView P C = ended_view at.sink t.records t.recorder t.door t.link ended in
      let still = logged_unsent t.panel plan source output now at door before.panel _ told ends in
      record {
        runs = beside view recording before.records ended.records told refl still (λ (recorder : Option RecorderView) (e : EndedView P C). RunsLogged t.panel plan source output now at door before.panel recorder e)
            (runs_logged t.panel plan source output now at door before.panel _ told ends);
        gave = gave;
        asked = logged_more ends;
        recorded_grows = handed (sink_of recording before.records ended.records) (λ r same. grows_same same) (sink_back view recording before.records ended.records told refl still);
        unrecorded = aside_back view recording before.records ended.records told refl still;
        undialed = undialed;
        audited = handed_audited (sink_view at.sink) (sink_view at.sink at.log) ended.means ended.output (logged_audited few ends);
      }
