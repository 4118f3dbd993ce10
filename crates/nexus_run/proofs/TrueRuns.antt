-- The reports of a run are true.
use Rattle.std.proofs.Common.{◌≡◌, ℕ, List, [], length, Option, Some, None, ap}
use Rattle.nx_io.specs.Views.{DoorView, RecorderView, SinkView}
use Rattle.policy_history.specs.declared.heads.Head.{Head}
use Rattle.policy_history.specs.declared.events.Entry.{Entry}
use Rattle.policy_history.specs.Values.{History, entry_trees}
use Rattle.run_streams.specs.Runs.{SourceRun}
use Rattle.nexus_serve.specs.Hosting.{Plan}
use Rattle.nexus_serve.specs.Services.{IsJournal}
use Rattle.nexus_serve.specs.TrueReports.{AreTrue, asked_by}
use Rattle.authority_ask.specs.PanelCalls.{PanelHistory}
use Rattle.authority_ask.specs.Panels.{Told}
use Rattle.nexus_serve.specs.Views.{ReportView}
use Rattle.verdict_words.specs.Settling.{flat}
use Rattle.nexus_serve.proofs.ForCallers.{hosts_true, none_true}
use Rattle.service_commands.specs.Services.{EndedView, EndsService}
use Rattle.service_commands.specs.Services as service

-- the reports are true of the journal with this head and these entries, from the length on that it had as the service began
abbrev pub AreTrueReports : Head → List Entry → List Told → List ReportView → Type 0
AreTrueReports h es asks reports = (low : ℕ) × AreTrue h (entry_trees es) low asks reports

-- where nothing was begun there is no journal
pub no_journal : (journal : Option History) (h : Head) (es : List Entry) → journal ≡ None → IsJournal journal h es → ⊥
no_journal None h es none is = is
no_journal (Some journal) h es none is = cc none

-- a run of `serve`
pub service_true : {P C : Type 0} {panel : P → PanelHistory} {plan : Plan} {source : SourceRun} {sink : SinkView} {door : DoorView} {asked : P} {recorder : Option RecorderView} {ended : EndedView P C} (h : Head) (es : List Entry)
    → EndsService panel plan source sink door asked recorder ended → IsJournal ended.journal h es → AreTrueReports h es (asked_by panel ended.means) ended.reports
service_true h es (service.hosted head opening written end policy still hosts) is = (length opening, hosts_true h es hosts is)
service_true h es (service.unbegun sink_now idle output grows kept ends) is = absurd (no_journal _ h es idle.journal is)

-- a run of another command, which has no report, and shared its panel with nobody
pub no_report_true : (h : Head) (es : List Entry) (asks : List Told) (reports : List (List ReportView)) → asks ≡ [] → reports ≡ [] → AreTrueReports h es asks (flat reports)
no_report_true h es asks reports unasked none = (0, none_true h (entry_trees es) 0 asks (flat reports) (ap flat none) unasked)
