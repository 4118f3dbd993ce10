use Rattle.std.proofs.Common.{◌≡◌, ◌≤◌, ◌*◌, ◌⊎◌, ℕ, ap, refl, sym, subst, arith}
use Rattle.std.proofs.lemmas.Nat.{mul-le}
use Rattle.std.specs.Prelude.{option_map}
use Rattle.policy_history.specs.Values.{entry_trees}
use Rattle.journal_text.proofs.ForCallers.{greatest_at_most}
use Rattle.nx_io.proofs.ForCallers.{gained-nothing, grows-nothing}
use Rattle.nx_io.specs.Views.{SinkView, door_view, recorder_view, sink_view}
use Rattle.nexus_serve.specs.Hosting.{Hosts, Plan}
use Rattle.run_streams.specs.Ends.{no_memory, source_failed}
use Rattle.run_streams.proofs.ForCallers.{refusal_ends, refusal_hands, told_grows}
use Rattle.service_commands.specs.Services.{hosted, patience_in, policy_form, unbegun}
use Rattle.service_commands.proofs.ServiceEnds.{read_not_refused}
use Rattle.service_commands.proofs.service.run_service.Goals as goal

pub host-requires-clause-numbers : goal.host-requires-clause-numbers
host-requires-clause-numbers g c κs within =
    let bound = greatest_at_most _ (entry_trees c.in-Ok.journal.entries) c.in-Ok.ensures.below in
    let small : c.args.service.workers * c.args.service.sessions ≤ 1024 * 65536 = mul-le c.args.service.workers c.args.service.sessions 1024 65536 c.requires.within.workers_are.1 c.requires.within.sessions_are.1 in
    omega (arith, bound, small)

pub returns-in-Ok-clause-ends : goal.returns-in-Ok-clause-ends
returns-in-Ok-clause-ends g c =
    let plan : Plan = record { address = c.args.service.address.now; workers = c.args.service.workers; sessions = c.args.service.sessions; patience = patience_in c.args.service.patience } in
    let sink : SinkView = sink_view g.K.Sink c.args.output in
    hosted c.in-Ok.journal.head c.in-Ok.journal.entries c.host.result.served.written c.host.result.served.end c.in-Ok.ensures.ok c.in-Ok.ensures.count
    (subst (λ x. Hosts g.P.Panel.history plan c.in-Ok.journal.head c.in-Ok.journal.entries sink (door_view g.D.Door g.D.Link.Link c.args.outside.door) c.args.outside.panel (option_map (recorder_view g.C.Sink g.C.Recorder) c.args.outside.recorder) x) (sym c.ended_by.ensures.hosted) (rw c.seconds.ensures at c.host.ensures.hosted))

pub returns-in-Ok-clause-handed : goal.returns-in-Ok-clause-handed
returns-in-Ok-clause-handed g c =
    rw c.ended_by.ensures.unrefused
    (read_not_refused _ _ _ _ _ _ _ _ c.in-Ok.journal.head (entry_trees c.in-Ok.journal.entries) c.in-Ok.ensures.ok (returns-in-Ok-clause-ends g c))

pub returns-in-Err-Refused-clause-ends : goal.returns-in-Err-Refused-clause-ends
returns-in-Err-Refused-clause-ends g c =
    let view : g.row.K.Denot → SinkView = sink_view g.K.Sink in
    let e = c.unserved.ensures in
    let before = g.K.Sink.sent c.args.output in
    let now = g.K.Sink.sent c.tell_refusal-end.new.output in
    let refusal = rw c.in-Err-Refused.field-0-is at c.in-Err-Refused.ensures.err in
    let still = rw c.in-Err-Refused.field-0-is at c.in-Err-Refused.ensures.count in
    let told = rw c.in-Err-Refused.field-0-is at c.tell_refusal-end.ensures.told in
    unbegun (view c.tell_refusal-end.new.output) e.unbegun (ap (option_map view) e.output) (told_grows before now told)
    (λ failed. ap view (c.tell_refusal-end.ensures.untouched (subst (λ (status : ℕ). (status ≡ 4) ⊎ (status ≡ 6)) e.status failed)))
    (rw e.status (refusal_ends c.in-Err-Refused.refusal before now _ _ refusal still told))

pub returns-in-Err-Failed-clause-ends : goal.returns-in-Err-Failed-clause-ends
returns-in-Err-Failed-clause-ends g c =
    let view : g.row.K.Denot → SinkView = sink_view g.K.Sink in
    let sent = g.K.Sink.sent c.args.output in
    let e = c.unserved-in-Err-Failed.ensures in
    unbegun (view c.args.output) e.unbegun (ap (option_map view) e.output) (grows-nothing sent) (λ failed. refl)
    (source_failed (rw c.of.ensures at e.status) (gained-nothing sent) (rw c.in-Err-Failed.field-0-is at c.in-Err-Failed.ensures.count) refl)

pub returns-in-Err-Memory-clause-ends : goal.returns-in-Err-Memory-clause-ends
returns-in-Err-Memory-clause-ends g c =
    let view : g.row.K.Denot → SinkView = sink_view g.K.Sink in
    let sent = g.K.Sink.sent c.args.output in
    let e = c.unserved-in-Err-Memory.ensures in
    unbegun (view c.args.output) e.unbegun (ap (option_map view) e.output) (grows-nothing sent) (λ failed. refl)
    (no_memory (rw c.of-in-Err-Memory.ensures at e.status) (gained-nothing sent) (rw c.in-Err-Memory.field-0-is at c.in-Err-Memory.ensures.count) refl)

pub returns-in-Err-Refused-clause-handed : goal.returns-in-Err-Refused-clause-handed
returns-in-Err-Refused-clause-handed g c =
    let e = c.unserved.ensures in
    let refusal = rw c.in-Err-Refused.field-0-is at c.in-Err-Refused.ensures.err in
    let end = c.tell_refusal-end in
    let told = rw c.in-Err-Refused.field-0-is at end.ensures.told in
    rw (e.status, e.refusal, e.output)
    (refusal_hands (policy_form _) _ c.in-Err-Refused.refusal (g.K.Sink.sent c.args.output) (g.K.Sink.sent end.new.output) (g.K.Sink.faults c.args.output) (g.K.Sink.faults end.new.output)
    end.result.status end.result.refusal refusal told (rw c.in-Err-Refused.field-0-is at end.ensures.handed) end.ensures.kept)

pub returns-in-Err-Failed-clause-handed : goal.returns-in-Err-Failed-clause-handed
returns-in-Err-Failed-clause-handed g c =
    let e = c.unserved-in-Err-Failed.ensures in rw (e.status, e.refusal, c.of.ensures) (λ three. cc three)

pub returns-in-Err-Memory-clause-handed : goal.returns-in-Err-Memory-clause-handed
returns-in-Err-Memory-clause-handed g c =
    let e = c.unserved-in-Err-Memory.ensures in rw (e.status, e.refusal, c.of-in-Err-Memory.ensures) (λ three. cc three)
