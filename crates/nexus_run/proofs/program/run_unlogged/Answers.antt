use Rattle.std.proofs.Common.{◌≤◌, ◌*◌, [], inl, inr, refl, arith}
use Rattle.std.proofs.lemmas.Nat.{mul-le}
use Rattle.nx_io.specs.Views.{SinkView, sink_view}
use Rattle.service_commands.proofs.ForCallers.{handed_audited, none_audited, service_audited}
use Rattle.run_streams.specs.Runs.{source_run}
use Rattle.run_streams.proofs.ForCallers.{handed_ends}
use Rattle.service_commands.specs.Services.{sink_behind}
use Rattle.nexus_run.specs.Notes.{service_form}
use Rattle.nexus_run.specs.Runs.{told_by}
use Rattle.nexus_run.proofs.HandedOn.{idle_hands, only_refused, plain_hands, service_hands, talk_hands}
use Rattle.nexus_run.proofs.Running.{handed, none_runs, plain_runs, service_runs, talk_runs}
use Rattle.nexus_run.proofs.TrueRuns.{no_journal, no_report_true, service_true}
use Rattle.nexus_run.proofs.program.run_unlogged.Goals as goal

-- ---- No command

pub returns-in_default-clause-runs : goal.returns-in_default-clause-runs
returns-in_default-clause-runs g c =
    rw c.idle_back.ensures.ended
    (none_runs (told_by g.S.Source g.K.Sink g.C.Sink g.C.Recorder g.D.Door g.D.Link.Link g.P.Panel.history) _
    (record { input = c.args.input.now; output = c.args.sinks.output; records = c.args.sinks.records; door = c.args.door; panel = c.args.panel }) _ c.in_default.ensures)

pub returns-in_default-clause-earned : goal.returns-in_default-clause-earned
returns-in_default-clause-earned g c = λ h es is. rw c.idle_back.ensures.ended (no_report_true h es _ _ refl refl)

pub returns-in_default-clause-audited : goal.returns-in_default-clause-audited
returns-in_default-clause-audited g c = rw c.idle_back.ensures.ended (none_audited {P = g.row.P.Denot} {C = g.row.C.Denot} _ _ _ [] refl)

pub returns-in_default-clause-handed : goal.returns-in_default-clause-handed
returns-in_default-clause-handed g c =
    rw c.idle_back.ensures.ended
    (idle_hands (told_by g.S.Source g.K.Sink g.C.Sink g.C.Recorder g.D.Door g.D.Link.Link g.P.Panel.history) _
    (record { input = c.args.input.now; output = c.args.sinks.output; records = c.args.sinks.records; door = c.args.door; panel = c.args.panel }) 2 (λ three. cc three))

pub returns-in_default-clause-only : goal.returns-in_default-clause-only
returns-in_default-clause-only g c = rw c.idle_back.ensures.ended (λ other. refl)

-- ---- A service

pub returns-in-Serve-clause-other_words : goal.returns-in-Serve-clause-other_words
returns-in-Serve-clause-other_words g c =
    let mine = rw c.in-Serve.is at c.in-Some.ensures in
    let service = c.in-Serve.service in
    λ none. absurd (none (inr (inl (service.address.now, service.workers, service.sessions, service.patience, service.records, mine.0, mine.1))))

pub returns-in-Serve-clause-runs : goal.returns-in-Serve-clause-runs
returns-in-Serve-clause-runs g c =
    let mine = rw c.in-Serve.is at c.in-Some.ensures in
    let service = c.in-Serve.service in
    let ended = c.run_service-ended in
    rw (c.with_records.ensures, c.recorder-recorder.ensures.aside)
    (service_runs (told_by g.S.Source g.K.Sink g.C.Sink g.C.Recorder g.D.Door g.D.Link.Link g.P.Panel.history) _
    (record { input = c.args.input.now; output = c.args.sinks.output; records = c.args.sinks.records; door = c.args.door; panel = c.args.panel }) _
    service.address.now service.workers service.sessions service.patience service.records mine.0 mine.1 ended.result ended.ensures.gave ended.ensures.dialed (rw c.recorder-recorder.ensures.recorder at ended.ensures.ends))

pub returns-in-Serve-clause-earned : goal.returns-in-Serve-clause-earned
returns-in-Serve-clause-earned g c = λ h es is. rw c.with_records.ensures (service_true h es c.run_service-ended.ensures.ends (rw c.with_records.ensures at is))

pub returns-in-Serve-clause-audited : goal.returns-in-Serve-clause-audited
returns-in-Serve-clause-audited g c =
    let within = (rw c.in-Serve.is at c.in-Some.ensures).0 in
    let view : g.row.K.Denot → SinkView = sink_view g.K.Sink in
    let small : c.in-Serve.service.workers * c.in-Serve.service.sessions ≤ 1024 * 65536 = mul-le c.in-Serve.service.workers c.in-Serve.service.sessions 1024 65536 within.workers_are.1 within.sessions_are.1 in
    rw c.with_records.ensures (handed_audited view (view c.args.sinks.output) _ c.run_service-ended.result.output (service_audited (omega (arith, small)) c.run_service-ended.ensures.ends))

pub returns-in-Serve-clause-handed : goal.returns-in-Serve-clause-handed
returns-in-Serve-clause-handed g c =
    let mine = rw c.in-Serve.is at c.in-Some.ensures in
    let service = c.in-Serve.service in
    rw c.with_records.ensures
    (service_hands (told_by g.S.Source g.K.Sink g.C.Sink g.C.Recorder g.D.Door g.D.Link.Link g.P.Panel.history) _
    (record { input = c.args.input.now; output = c.args.sinks.output; records = c.args.sinks.records; door = c.args.door; panel = c.args.panel }) _ _
    service.address.now service.workers service.sessions service.patience service.records mine.0 mine.1 c.run_service-ended.ensures.handed)

pub returns-in-Serve-clause-only : goal.returns-in-Serve-clause-only
returns-in-Serve-clause-only g c =
    let service = c.in-Serve.service in
    let ended = c.run_service-ended in
    rw c.with_records.ensures
    (handed_ends (service_form service.address.now service.workers service.sessions service.patience) (source_run g.S.Source c.args.input.now ended.new.input)
    (sink_behind g.K.Sink c.args.sinks.output ended.result.output) ended.result.status ended.result.refusal ended.ensures.handed)

-- ---- A talk

pub returns-in-Talk-clause-other_words : goal.returns-in-Talk-clause-other_words
returns-in-Talk-clause-other_words g c =
    let mine = rw c.in-Talk.is at c.in-Some.ensures in
    λ none. absurd (none (inr (inr (c.in-Talk.talk.input, c.in-Talk.talk.address.now, mine.0, mine.1))))

pub returns-in-Talk-clause-runs : goal.returns-in-Talk-clause-runs
returns-in-Talk-clause-runs g c =
    let mine = rw c.in-Talk.is at c.in-Some.ensures in
    let e = c.run_talk.ensures in
    talk_runs (told_by g.S.Source g.K.Sink g.C.Sink g.C.Recorder g.D.Door g.D.Link.Link g.P.Panel.history) _
    (record { input = c.args.input.now; output = c.args.sinks.output; records = c.args.sinks.records; door = c.args.door; panel = c.args.panel }) _
    c.in-Talk.talk.input c.in-Talk.talk.address.now mine.0 mine.1 c.run_talk.result.ended e.gave e.sent e.untouched e.undialed e.talk e.unused

pub returns-in-Talk-clause-earned : goal.returns-in-Talk-clause-earned
returns-in-Talk-clause-earned g c = λ h es is. absurd (no_journal _ h es c.run_talk.ensures.unused.0 is)

pub returns-in-Talk-clause-audited : goal.returns-in-Talk-clause-audited
returns-in-Talk-clause-audited g c = handed c.run_talk.result.ended.output (λ k grows. none_audited _ _ _ _ c.run_talk.ensures.unused.4) c.run_talk.ensures.sent

pub returns-in-Talk-clause-handed : goal.returns-in-Talk-clause-handed
returns-in-Talk-clause-handed g c =
    let mine = rw c.in-Talk.is at c.in-Some.ensures in
    talk_hands (told_by g.S.Source g.K.Sink g.C.Sink g.C.Recorder g.D.Door g.D.Link.Link g.P.Panel.history) _
    (record { input = c.args.input.now; output = c.args.sinks.output; records = c.args.sinks.records; door = c.args.door; panel = c.args.panel }) _
    c.run_talk.result.ended c.in-Talk.talk.input c.in-Talk.talk.address.now mine.1 c.run_talk.ensures.handed

-- ---- Another command

pub returns-in-Plain-clause-other_words : goal.returns-in-Plain-clause-other_words
returns-in-Plain-clause-other_words g c =
    let mine = rw c.in-Plain.is at c.in-Some.ensures in
    λ none. absurd (none (inl (c.in-Plain.command, mine.0, mine.1)))

pub returns-in-Plain-clause-runs : goal.returns-in-Plain-clause-runs
returns-in-Plain-clause-runs g c =
    let mine = rw c.in-Plain.is at c.in-Some.ensures in
    let e = c.run_plain-end.ensures in
    rw c.handed_back.ensures.ended
    (plain_runs (told_by g.S.Source g.K.Sink g.C.Sink g.C.Recorder g.D.Door g.D.Link.Link g.P.Panel.history) _
    (record { input = c.args.input.now; output = c.args.sinks.output; records = c.args.sinks.records; door = c.args.door; panel = c.args.panel }) _
    c.in-Plain.command mine.0 mine.1 _ _ _ _ _ _ e.gave e.sent e.recorded e.unrecorded e.asked e.untouched e.command e.core_reads_nothing e.drill_reads_nothing e.other_panel)

pub returns-in-Plain-clause-earned : goal.returns-in-Plain-clause-earned
returns-in-Plain-clause-earned g c = λ h es is. rw c.handed_back.ensures.ended (no_report_true h es _ _ refl refl)

pub returns-in-Plain-clause-audited : goal.returns-in-Plain-clause-audited
returns-in-Plain-clause-audited g c = rw c.handed_back.ensures.ended (none_audited {P = g.row.P.Denot} {C = g.row.C.Denot} _ _ _ [] refl)

pub returns-in-Plain-clause-handed : goal.returns-in-Plain-clause-handed
returns-in-Plain-clause-handed g c =
    let mine = rw c.in-Plain.is at c.in-Some.ensures in
    rw c.handed_back.ensures.ended
    (plain_hands (told_by g.S.Source g.K.Sink g.C.Sink g.C.Recorder g.D.Door g.D.Link.Link g.P.Panel.history) _
    (record { input = c.args.input.now; output = c.args.sinks.output; records = c.args.sinks.records; door = c.args.door; panel = c.args.panel }) _ _
    c.in-Plain.command mine.1 c.run_plain-end.ensures.handed)

pub returns-in-Plain-clause-only : goal.returns-in-Plain-clause-only
returns-in-Plain-clause-only g c = rw c.handed_back.ensures.ended (only_refused _ _ _ _ c.in-Plain.command c.run_plain-end.ensures.handed)
