use Rattle.session_core.proofs.BoardTurns.{early_change, given_up_any, nobody_of, somebody_of, written_counted, written_ready, written_turn}
use Rattle.session_core.proofs.Noting.{noted_none}
use Rattle.session_core.proofs.board_session.BoardSession.change.Goals as goal

pub returns-in_default-clause-turn : goal.returns-in_default-clause-turn
returns-in_default-clause-turn g c = early_change c.args.self c.args.request.now _ (nobody_of c.args.self c.in_default.is) c.requires.no_hello c.at-at.ensures.length

pub returns-in_default-event_of-clause-turn : goal.returns-in_default-event_of-clause-turn
returns-in_default-event_of-clause-turn g c = given_up_any c.args.self _ c.requires.wants

pub returns-in_default-policy_line-clause-turn : goal.returns-in_default-policy_line-clause-turn
returns-in_default-policy_line-clause-turn g c = given_up_any c.args.self _ c.requires.wants

pub returns-clause-turn : goal.returns-clause-turn
returns-clause-turn g c =
    rw c.written_reply.ensures (written_turn c.args.self c.write-pass.result.0 c.in-Some.who.number c.in-Ok-Some.event c.args.request.now (somebody_of c.args.self _ c.in-Some.is)
    (rw c.in-Ok-Some.field-0-is at c.in-Ok-Some.ensures.event) c.write-pass.result.1 (rw (← c.requires.ready.board_is) at c.write-pass.ensures.answered))

pub returns-clause-ready : goal.returns-clause-ready
returns-clause-ready g c =
    written_ready c.args.self c.write-pass.result.0 c.in-Some.who.number c.in-Ok-Some.event c.args.request.now (somebody_of c.args.self _ c.in-Some.is)
    (rw c.in-Ok-Some.field-0-is at c.in-Ok-Some.ensures.event) _ c.requires.ready c.write-pass.result.1 (rw (← c.requires.ready.board_is) at c.write-pass.ensures.answered)

pub returns-clause-counted : goal.returns-clause-counted
returns-clause-counted g c = rw c.written_reply.ensures (written_counted _ _ c.args.request.now c.write-pass.result.1 c.write-pass.ensures.unrecorded)

pub returns-in_default-clause-noted : goal.returns-in_default-clause-noted
returns-in_default-clause-noted g c = λ asks kept. noted_none (λ call. absurd (c.requires.no_call call))

pub returns-in_default-event_of-clause-noted : goal.returns-in_default-event_of-clause-noted
returns-in_default-event_of-clause-noted g c = λ asks kept. noted_none (λ call. absurd (c.requires.no_call call))

pub returns-in_default-policy_line-clause-noted : goal.returns-in_default-policy_line-clause-noted
returns-in_default-policy_line-clause-noted g c = λ asks kept. noted_none (λ call. absurd (c.requires.no_call call))

pub returns-clause-noted : goal.returns-clause-noted
returns-clause-noted g c = λ asks kept. noted_none (λ call. absurd (c.requires.no_call call))
