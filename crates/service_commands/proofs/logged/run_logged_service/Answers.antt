use Rattle.std.proofs.Common.{◌≡◌, ◌≤◌, ◌*◌, ◌⊎◌, ℕ, ap, refl, sym, subst, arith}
use Rattle.std.proofs.lemmas.Nat.{mul-le}
use Rattle.std.specs.Prelude.{option_map}
use Rattle.policy_history.specs.Values.{entry_trees}
use Rattle.journal_text.proofs.ForCallers.{greatest_at_most}
use Rattle.nx_io.proofs.ForCallers.{gained-nothing, grows-nothing}
use Rattle.nx_io.specs.Views.{SinkView, door_view, recorder_view, sink_view}
use Rattle.nexus_serve.specs.Hosting.{Hosts, Plan}
use Rattle.run_streams.specs.Ends.{no_memory, source_failed}
use Rattle.run_streams.proofs.ForCallers.{apart, refusal_ends, refusal_hands, told_grows}
use Rattle.service_commands.specs.Logged.{hosted, unbegun, unreached}
use Rattle.service_commands.specs.Services.{patience_in, policy_form}
use Rattle.service_commands.proofs.LoggedEnds.{read_not_refused}
use Rattle.service_commands.proofs.logged.run_logged_service.Goals as goal

pub host-requires-clause-numbers : goal.host-requires-clause-numbers
host-requires-clause-numbers g c κs within =
    let service = c.args.service.service in
    let bound = greatest_at_most _ (entry_trees c.in-Ok.journal.entries) c.in-Ok.ensures.below in
    let small : service.workers * service.sessions ≤ 1024 * 65536 = mul-le service.workers service.sessions 1024 65536 c.requires.within.workers_are.1 c.requires.within.sessions_are.1 in
    omega (arith, bound, small)

-- the log was sent nothing as it was asked to be reached
pub returns-in-Ready-clause-ends : goal.returns-in-Ready-clause-ends
returns-in-Ready-clause-ends g c =
    let service = c.args.service.service in
    let plan : Plan = record { address = service.address.now; workers = service.workers; sessions = service.sessions; patience = patience_in service.patience } in
    let now = c.reach.new.self in
    let e = c.in-Ready.ensures in
    hosted now c.in-Ok.journal.head c.in-Ok.journal.entries c.host.result.served.written c.host.result.served.end c.in-Ok.ensures.ok c.in-Ok.ensures.count refl
    (record { asked = e.asked; view = cc (e.sent, e.synced, e.count) })
    (subst (λ x. Hosts g.P.Panel.history plan c.in-Ok.journal.head c.in-Ok.journal.entries (sink_view g.J.Sink now) (door_view g.D.Door g.D.Link.Link c.args.outside.door) c.args.outside.panel (option_map (recorder_view g.C.Sink g.C.Recorder) c.args.outside.recorder) x) (sym c.ended_by.ensures.hosted) (rw c.seconds.ensures at c.host.ensures.hosted))

pub returns-in-Failed-clause-ends : goal.returns-in-Failed-clause-ends
returns-in-Failed-clause-ends g c =
    let now = c.reach.new.self in
    let e = c.in-Failed.ensures in
    let end = c.unreached.ensures in
    unreached now c.in-Ok.journal.head (entry_trees c.in-Ok.journal.entries) c.in-Ok.ensures.ok c.in-Ok.ensures.count refl (record { asked = e.asked; view = cc (e.sent, e.synced, e.count) }) end.unbegun
    (ap (option_map (sink_view g.J.Sink)) end.output) end.status

pub returns-in-Err-Refused-clause-ends : goal.returns-in-Err-Refused-clause-ends
returns-in-Err-Refused-clause-ends g c =
    let view : g.row.K.Denot → SinkView = sink_view g.K.Sink in
    let e = c.unserved.ensures in
    let before = g.K.Sink.sent c.args.output.now in
    let now = g.K.Sink.sent c.tell_refusal-end.new.output in
    let refusal = rw c.in-Err-Refused.field-0-is at c.in-Err-Refused.ensures.err in
    let still = rw c.in-Err-Refused.field-0-is at c.in-Err-Refused.ensures.count in
    let told = rw c.in-Err-Refused.field-0-is at c.tell_refusal-end.ensures.told in
    unbegun e.unbegun (ap (option_map (sink_view g.J.Sink)) e.output) (told_grows before now told)
    (λ failed. ap view (c.tell_refusal-end.ensures.untouched (subst (λ (status : ℕ). (status ≡ 4) ⊎ (status ≡ 6)) e.status failed)))
    (rw e.status (refusal_ends c.in-Err-Refused.refusal before now _ _ refusal still told))

pub returns-in-Err-Failed-clause-ends : goal.returns-in-Err-Failed-clause-ends
returns-in-Err-Failed-clause-ends g c =
    let sent = g.K.Sink.sent c.args.output.now in
    let e = c.unserved-in-Err-Failed.ensures in
    unbegun e.unbegun (ap (option_map (sink_view g.J.Sink)) e.output) (grows-nothing sent) (λ failed. refl)
    (source_failed (rw c.of.ensures at e.status) (gained-nothing sent) (rw c.in-Err-Failed.field-0-is at c.in-Err-Failed.ensures.count) refl)

pub returns-in-Err-Memory-clause-ends : goal.returns-in-Err-Memory-clause-ends
returns-in-Err-Memory-clause-ends g c =
    let sent = g.K.Sink.sent c.args.output.now in
    let e = c.unserved-in-Err-Memory.ensures in
    unbegun e.unbegun (ap (option_map (sink_view g.J.Sink)) e.output) (grows-nothing sent) (λ failed. refl)
    (no_memory (rw c.of-in-Err-Memory.ensures at e.status) (gained-nothing sent) (rw c.in-Err-Memory.field-0-is at c.in-Err-Memory.ensures.count) refl)

pub returns-in-Ready-clause-handed : goal.returns-in-Ready-clause-handed
returns-in-Ready-clause-handed g c =
    rw c.ended_by.ensures.unrefused
    (read_not_refused _ _ _ _ _ _ _ _ _ _ c.in-Ok.journal.head (entry_trees c.in-Ok.journal.entries) c.in-Ok.ensures.ok (returns-in-Ready-clause-ends g c))

pub returns-in-Failed-clause-handed : goal.returns-in-Failed-clause-handed
returns-in-Failed-clause-handed g c =
    let end = c.unreached.ensures in rw end.unrefused (λ three. apart _ 5 3 end.status three refl)

pub returns-in-Err-Refused-clause-handed : goal.returns-in-Err-Refused-clause-handed
returns-in-Err-Refused-clause-handed g c =
    let e = c.unserved.ensures in
    let refusal = rw c.in-Err-Refused.field-0-is at c.in-Err-Refused.ensures.err in
    let end = c.tell_refusal-end in
    let told = rw c.in-Err-Refused.field-0-is at end.ensures.told in
    rw (e.status, e.refusal)
    (refusal_hands (policy_form _) _ c.in-Err-Refused.refusal (g.K.Sink.sent c.args.output.now) (g.K.Sink.sent end.new.output) (g.K.Sink.faults c.args.output.now) (g.K.Sink.faults end.new.output)
    end.result.status end.result.refusal refusal told (rw c.in-Err-Refused.field-0-is at end.ensures.handed) end.ensures.kept)

pub returns-in-Err-Failed-clause-handed : goal.returns-in-Err-Failed-clause-handed
returns-in-Err-Failed-clause-handed g c =
    let e = c.unserved-in-Err-Failed.ensures in rw (e.status, e.refusal, c.of.ensures) (λ three. cc three)

pub returns-in-Err-Memory-clause-handed : goal.returns-in-Err-Memory-clause-handed
returns-in-Err-Memory-clause-handed g c =
    let e = c.unserved-in-Err-Memory.ensures in rw (e.status, e.refusal, c.of-in-Err-Memory.ensures) (λ three. cc three)
