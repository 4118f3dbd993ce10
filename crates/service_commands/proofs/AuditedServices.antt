-- What a run of `serve` recorded is audited.
use Rattle.std.proofs.Common.{◌≡◌, ◌≤◌, ◌+◌, ◌*◌, ◌-◌, ◌^◌, ℕ, List, [], Option, Some, None, option_map, refl, sym, subst, arith}
use Rattle.std.proofs.lemmas.List.Elements.{All-nil}
use Rattle.nx_io.specs.Streams.{gained}
use Rattle.authority_ask.specs.PanelCalls.{PanelHistory}
use Rattle.policy_history.specs.Values.{entry_trees, greatest_of}
use Rattle.journal_text.proofs.ForCallers.{greatest_at_most}
use Rattle.kept_policies.proofs.ForCallers.{front_is_written}
use Rattle.run_streams.specs.Runs.{SourceRun}
use Rattle.told_records.specs.Audited.{AreAudited, IsFresh}
use Rattle.told_records.proofs.ForCallers.{fresh_keepers_are_audited}
use Rattle.nexus_serve.specs.declared.means.Means.{Means}
use Rattle.nexus_serve.specs.Hosting.{Plan, kept_of}
use Rattle.nx_io.specs.Views.{DoorView, RecorderView, SinkView, sink_view}
use Rattle.nexus_serve.proofs.ForCallers.{IsAuditedOver, IsHandedAudited, hosts_audited}
use Rattle.service_commands.specs.Services.{EndedView, EndsService, HandsBack, most_session}
use Rattle.service_commands.specs.Services as service
use Rattle.service_commands.specs.Logged.{EndsLogged, LogAt}
use Rattle.service_commands.specs.Logged as logged

-- where there is no keeper nothing was recorded
pub none_audited : {P C : Type 0} (faults faults_now : ℕ) (text : List ℕ) (means : List (Means P C)) → means ≡ [] → AreAudited faults faults_now text (kept_of means)
none_audited faults faults_now text means none = subst (λ (ms : List (Means _ _)). AreAudited faults faults_now text (kept_of ms)) (sym none) (fresh_keepers_are_audited faults faults_now text [] (All-nil IsFresh))

-- there are numbers for all sessions
room : (greatest sessions most : ℕ) → greatest ≤ most → most ≡ 2 ^ 64 - 2 - sessions → sessions ≤ 2 ^ 64 - 2 → greatest + sessions ≤ 2 ^ 64 - 2
room greatest sessions most least is few = omega (arith, least, is, few)

pub service_audited : {P C : Type 0} {panel : P → PanelHistory} {plan : Plan} {source : SourceRun} {sink : SinkView} {door : DoorView} {asked : P} {recorder : Option RecorderView} {ended : EndedView P C}
    → plan.workers * plan.sessions ≤ 2 ^ 64 - 2 → EndsService panel plan source sink door asked recorder ended → IsHandedAudited sink ended.output ended.means
service_audited {plan = plan} {source = source} few (service.hosted h opening written end policy still hosts) =
    let front = policy.form.1.1 in
    let greatest = greatest_at_most (most_session plan) (entry_trees opening) front.below in
    hosts_audited (front_is_written (most_session plan) source.given h (entry_trees opening) policy.form.1.0 [] front)
    (room (greatest_of (entry_trees opening)) (plan.workers * plan.sessions) (most_session plan) greatest refl few) hosts
service_audited {sink = sink} {ended = ended} few (service.unbegun sink_now idle output grows kept ends) =
    (sink_now, output, none_audited sink.faults sink_now.faults (gained sink.sent sink_now.sent) ended.means idle.means)

-- so it is of the text of a log
pub logged_audited : {P C J : Type 0} {panel : P → PanelHistory} {plan : Plan} {source : SourceRun} {output output_now : SinkView} {at : LogAt J} {door : DoorView} {asked : P} {recorder : Option RecorderView} {ended : EndedView P C}
    → plan.workers * plan.sessions ≤ 2 ^ 64 - 2 → EndsLogged panel plan source output output_now at door asked recorder ended → IsHandedAudited (sink_view at.sink at.log) ended.output ended.means
logged_audited {at = at} {ended = ended} few (logged.hosted log_then h opening written end policy still same was hosts) =
    subst (λ (sink : SinkView). IsHandedAudited sink ended.output ended.means) was.view (service_audited few (service.hosted h opening written end policy still hosts))
logged_audited {at = at} {ended = ended} few (logged.unreached log_now h opening policy still same was idle log_is status) =
    let none = none_audited (at.sink.faults at.log) (at.sink.faults log_now) (gained (at.sink.sent at.log) (at.sink.sent log_now)) ended.means idle.means in
    (sink_view at.sink log_now, log_is, none)
logged_audited {at = at} {ended = ended} few (logged.unbegun idle log_is grows kept ends) =
    let sent = at.sink.sent at.log in
    let faults = at.sink.faults at.log in
    (sink_view at.sink at.log, log_is, none_audited faults faults (gained sent sent) ended.means idle.means)

-- the same of what is handed back, by what it tells
pub handed_audited : {K P C : Type 0} (view : K → SinkView) (sink : SinkView) (means : List (Means P C)) (output : Option K) → IsHandedAudited sink (option_map view output) means
    → HandsBack output (λ k. IsAuditedOver sink (view k) (kept_of means))
handed_audited view sink means None (sink_now, is, audited) = absurd (cc is)
handed_audited view sink means (Some k) (sink_now, is, audited) =
    let same : sink_now ≡ view k = cc (sym is) in subst (λ (s : SinkView). IsAuditedOver sink s (kept_of means)) same audited
