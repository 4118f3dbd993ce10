use Rattle.std.proofs.Common.{refl, sym, ◌∙◌}
use Rattle.nx_io.proofs.ForCallers.{gained-nothing}
use Rattle.nx_io.specs.Views.{link_view}
use Rattle.run_streams.specs.Ends.{no_memory, source_failed}
use Rattle.run_streams.proofs.ForCallers.{refusal_ends, refusal_hands, told_grows}
use Rattle.service_commands.specs.Clients.{requests_form, undialed}
use Rattle.service_commands.proofs.ClientEnds.{never_three, talk_ends, unreached_failed, unreached_status}
use Rattle.service_commands.proofs.clients.client.Goals as goal

pub returns-in-Ok-clause-ends : goal.returns-in-Ok-clause-ends
returns-in-Ok-clause-ends g c =
    let e = c.talk-dialed.ensures in
    talk_ends (link_view g.D.Link.Link) c.in-Ok.requests c.talk-dialed.result.dialed c.talk-dialed.result.end _ c.in-Ok.ensures.ok c.in-Ok.ensures.count c.status_of.ensures e.unreached
    (λ none. rw (e.unheard none) (gained-nothing (g.K.Sink.sent c.args.output.now))) e.talks e.in_order e.closed e.toward e.place e.link_count e.output_count
    (rw (e.links, e.origin, e.calls) refl)

pub returns-in-Ok-clause-handed : goal.returns-in-Ok-clause-handed
returns-in-Ok-clause-handed g c three = never_three c.talk-dialed.result.end (sym c.status_of.ensures ∙ three)

pub returns-in-Err-Refused-clause-ends : goal.returns-in-Err-Refused-clause-ends
returns-in-Err-Refused-clause-ends g c =
    let refusal = rw c.in-Err-Refused.field-0-is at c.in-Err-Refused.ensures.err in
    let still = rw c.in-Err-Refused.field-0-is at c.in-Err-Refused.ensures.count in
    rw c.undialed.ensures
    (undialed refl refl (refusal_ends c.in-Err-Refused.refusal (g.K.Sink.sent c.args.output.now) (g.K.Sink.sent c.tell_refusal-end.new.output) _ _ refusal still c.tell_refusal-end.ensures.told))

pub returns-in-Err-Refused-clause-handed : goal.returns-in-Err-Refused-clause-handed
returns-in-Err-Refused-clause-handed g c =
    let refusal = rw c.in-Err-Refused.field-0-is at c.in-Err-Refused.ensures.err in
    rw c.undialed.ensures
    (refusal_hands (requests_form c.args.call.input) _ c.in-Err-Refused.refusal _ _ _ _ _ _ refusal c.tell_refusal-end.ensures.told c.tell_refusal-end.ensures.handed c.tell_refusal-end.ensures.kept)

pub returns-in-Err-Refused-clause-sent : goal.returns-in-Err-Refused-clause-sent
returns-in-Err-Refused-clause-sent g c = told_grows _ _ c.tell_refusal-end.ensures.told

pub returns-in-Err-Failed-clause-ends : goal.returns-in-Err-Failed-clause-ends
returns-in-Err-Failed-clause-ends g c =
    rw (c.undialed-in-Err-Failed.ensures, c.of.ensures)
    (undialed refl refl (source_failed refl (gained-nothing (g.K.Sink.sent c.args.output.now)) (rw c.in-Err-Failed.field-0-is at c.in-Err-Failed.ensures.count) refl))

pub returns-in-Err-Failed-clause-handed : goal.returns-in-Err-Failed-clause-handed
returns-in-Err-Failed-clause-handed g c = rw (c.undialed-in-Err-Failed.ensures, c.of.ensures) (λ three. cc three)

pub returns-in-Err-Memory-clause-ends : goal.returns-in-Err-Memory-clause-ends
returns-in-Err-Memory-clause-ends g c =
    rw (c.undialed-in-Err-Memory.ensures, c.of-in-Err-Memory.ensures)
    (undialed refl refl (no_memory refl (gained-nothing (g.K.Sink.sent c.args.output.now)) (rw c.in-Err-Memory.field-0-is at c.in-Err-Memory.ensures.count) refl))

pub returns-in-Err-Memory-clause-handed : goal.returns-in-Err-Memory-clause-handed
returns-in-Err-Memory-clause-handed g c = rw (c.undialed-in-Err-Memory.ensures, c.of-in-Err-Memory.ensures) (λ three. cc three)

pub returns-in-Ok-clause-undialed : goal.returns-in-Ok-clause-undialed
returns-in-Ok-clause-undialed g c = λ none other. absurd (other (unreached_status c.status_of.ensures (c.talk-dialed.ensures.unreached.0 none)))

pub returns-in-Ok-clause-untouched : goal.returns-in-Ok-clause-untouched
returns-in-Ok-clause-untouched g c = λ none failed. absurd (unreached_failed c.status_of.ensures (c.talk-dialed.ensures.unreached.0 none) failed)
