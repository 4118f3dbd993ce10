use Rattle.session_core.proofs.BoardTurns.{early_any, nobody_of, see_ready, see_recorded, see_turn, somebody_of}
use Rattle.session_core.proofs.Noting.{noted_none}
use Rattle.session_core.proofs.board_session.BoardSession.see.Goals as goal

pub returns-in_default-clause-turn : goal.returns-in_default-clause-turn
returns-in_default-clause-turn g c = early_any c.args.self _ _ (nobody_of c.args.self c.in_default.is) (λ name secret same. cc same) c.at-at.ensures.length

pub returns-in_default-clause-noted : goal.returns-in_default-clause-noted
returns-in_default-clause-noted g c = λ asks kept. noted_none (λ call. absurd call)

pub returns-clause-ready : goal.returns-clause-ready
returns-clause-ready g c =
    let met = rw (← c.requires.ready.board_is) at c.meet-pass.ensures.met in
    see_ready c.args.self c.meet-pass.result met.0 met.1 _ c.requires.ready

pub returns-clause-turn : goal.returns-clause-turn
returns-clause-turn g c =
    let met = rw (← c.requires.ready.board_is) at c.meet-pass.ensures.met in
    see_turn c.args.self c.meet-pass.result met.0 met.1 _ c.args.number c.at.result c.seen_reply-reply.result (somebody_of c.args.self _ c.in-Some.is) c.at.ensures.length c.seen_reply-reply.ensures

pub returns-clause-recorded : goal.returns-clause-recorded
returns-clause-recorded g c = see_recorded c.args.number c.at.result c.seen_reply-reply.result c.seen_reply-reply.ensures

pub returns-clause-noted : goal.returns-clause-noted
returns-clause-noted g c = λ asks kept. noted_none (λ call. absurd call)
