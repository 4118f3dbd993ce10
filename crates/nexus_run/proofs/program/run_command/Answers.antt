use Rattle.std.proofs.Common.{◌≤◌, ◌*◌, map, inl, inr, refl, sym, ◌∙◌, arith}
use Rattle.std.proofs.lemmas.Nat.{mul-le}
use Rattle.run_streams.specs.Runs.{sink_run, source_run}
use Rattle.run_streams.proofs.ForCallers.{handed_ends}
use Rattle.service_commands.specs.Services.{patience_in}
use Rattle.nexus_run.specs.Commands.{IsLoggedCall}
use Rattle.nexus_run.specs.Notes.{service_form}
use Rattle.nexus_run.specs.Runs.{told_by}
use Rattle.nexus_run.proofs.LoggedRuns.{logged_true, serves_logged}
use Rattle.nexus_run.proofs.Words.{logged_same}
use Rattle.nexus_run.proofs.program.run_command.Goals as goal

-- ---- A run without a log

pub returns-in_default-clause-other_words : goal.returns-in_default-clause-other_words
returns-in_default-clause-other_words g c = λ none. c.run_unlogged.ensures.other_words (λ is. none (inl is))

pub returns-in_default-clause-runs : goal.returns-in_default-clause-runs
returns-in_default-clause-runs g c = record {
  unlogged = λ unlogged. (c.run_unlogged.ensures.runs, rw c.run_unlogged.ensures.log refl);
  audited = λ unlogged. c.run_unlogged.ensures.audited;
  logged = λ a m n p r x are within is. absurd (c.in_default.ensures (a, m, n, p, r, x, within, is, are));
}

pub returns-in_default-clause-handed : goal.returns-in_default-clause-handed
returns-in_default-clause-handed g c = record {
  unlogged = λ unlogged. c.run_unlogged.ensures.handed;
  logged = λ a m n p r x are within is. absurd (c.in_default.ensures (a, m, n, p, r, x, within, is, are));
  only = c.run_unlogged.ensures.only;
}

pub returns-in_default-clause-earned : goal.returns-in_default-clause-earned
returns-in_default-clause-earned g c = c.run_unlogged.ensures.earned

-- ---- A service with a log

pub returns-clause-other_words : goal.returns-clause-other_words
returns-clause-other_words g c =
    let call = c.in-Some.call in
    let mine = c.in-Some.ensures in
    λ none. absurd (none (inr (call.service.address.now, call.service.workers, call.service.sessions, call.service.patience, call.service.records, call.log.now, mine.0, mine.1, mine.2)))

pub returns-clause-runs : goal.returns-clause-runs
returns-clause-runs g c =
    let call = c.in-Some.call in
    let service = call.service in
    let mine = c.in-Some.ensures in
    let ended = c.run_logged_service-ended in
    let small : service.workers * service.sessions ≤ 1024 * 65536 = mul-le service.workers service.sessions 1024 65536 mine.0.workers_are.1 mine.0.sessions_are.1 in
    let is_logged : IsLoggedCall (map (λ w. w.now) c.args.words.now) = (service.address.now, service.workers, service.sessions, service.patience, service.records, call.log.now, mine.0, mine.1, mine.2) in
    record {
      unlogged = λ unlogged. absurd (unlogged is_logged);
      audited = λ unlogged. absurd (unlogged is_logged);
      logged = λ a m n p r x are within is.
          let same = logged_same a m n p r x service.address.now service.workers service.sessions service.patience service.records call.log.now within mine.0 (sym are ∙ mine.2) in
          rw (same.0.0, same.0.1, same.0.2, same.0.3, same.0.4, same.1, c.beside_output.ensures.ended, c.beside_output.ensures.log, c.with_records.ensures, c.recorder-recorder.ensures.aside)
          (serves_logged (told_by g.S.Source g.K.Sink g.C.Sink g.C.Recorder g.D.Door g.D.Link.Link g.P.Panel.history)
          (record { input = c.args.input.now; output = c.args.sinks.output; records = c.args.sinks.records; door = c.args.door; panel = c.args.panel })
          (record { sink = g.J.Sink; teller = g.J.Log; log = c.args.sinks.log; address = call.log.now }) _
          (record { address = service.address.now; workers = service.workers; sessions = service.sessions; patience = patience_in service.patience }) service.records
          ended.result ended.new.output ended.ensures.gave ended.ensures.dialed (omega (arith, small)) (rw c.recorder-recorder.ensures.recorder at ended.ensures.ends));
    }

pub returns-clause-earned : goal.returns-clause-earned
returns-clause-earned g c = λ h es is.
    rw (c.beside_output.ensures.ended, c.with_records.ensures) (logged_true h es c.run_logged_service-ended.ensures.ends (rw (c.beside_output.ensures.ended, c.with_records.ensures) at is))

pub returns-clause-handed : goal.returns-clause-handed
returns-clause-handed g c =
    let call = c.in-Some.call in
    let service = call.service in
    let mine = c.in-Some.ensures in
    let ended = c.run_logged_service-ended in
    let hands = ended.ensures.handed in
    let is_logged : IsLoggedCall (map (λ w. w.now) c.args.words.now) = (service.address.now, service.workers, service.sessions, service.patience, service.records, call.log.now, mine.0, mine.1, mine.2) in
    record {
      unlogged = λ unlogged. absurd (unlogged is_logged);
      logged = λ a m n p r x are within is.
          let same = logged_same a m n p r x service.address.now service.workers service.sessions service.patience service.records call.log.now within mine.0 (sym are ∙ mine.2) in
          rw (same.0.1, same.0.2, c.beside_output.ensures.ended, c.with_records.ensures) hands;
      only = rw (c.beside_output.ensures.ended, c.with_records.ensures)
          (handed_ends (service_form service.address.now service.workers service.sessions service.patience) (source_run g.S.Source c.args.input.now ended.new.input)
          (sink_run g.K.Sink c.args.sinks.output ended.new.output) ended.result.status ended.result.refusal ended.ensures.handed);
    }
