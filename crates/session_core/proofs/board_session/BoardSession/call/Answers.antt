use Rattle.std.proofs.Common.{sym, refl, ◌∙◌}
use Rattle.authority_ask.proofs.ForCallers.{since_nothing}
use Rattle.session_core.proofs.BoardTurns.{call_counted, early_call, later_unrecorded}
use Rattle.session_core.proofs.Noting.{noted_here, noted_later, noted_none}
use Rattle.session_core.proofs.board_session.BoardSession.call.Goals as goal

pub returns-in_default-clause-turn : goal.returns-in_default-clause-turn
returns-in_default-clause-turn g c =
    early_call c.args.self c.args.op.now c.args.object.now c.args.arg _ _ (sym c.principal.ensures ∙ c.in_default.is) c.at-at.ensures.length (since_nothing (g.P.Panel.history c.args.panel.now))

pub returns-in_default-clause-noted : goal.returns-in_default-clause-noted
returns-in_default-clause-noted g c = noted_none (λ call. refl)

pub returns-in_default-clause-counted : goal.returns-in_default-clause-counted
returns-in_default-clause-counted g c = call_counted _ _ _ _ _ _ refl

pub returns-then-is_broken-clause-turn : goal.returns-then-is_broken-clause-turn
returns-then-is_broken-clause-turn g c =
    later_unrecorded c.args.self _ c.args.op.now c.args.object.now c.args.arg _ _ (sym c.principal.ensures ∙ c.in-Some.is) c.at-at-then-is_broken.ensures.length (since_nothing (g.P.Panel.history c.args.panel.now))

pub returns-then-is_broken-clause-noted : goal.returns-then-is_broken-clause-noted
returns-then-is_broken-clause-noted g c = noted_later (c.is_broken.ensures.wanted c.if-is_broken.true) (sym c.is_broken.ensures.broken ∙ c.if-is_broken.true) (since_nothing (g.P.Panel.history c.args.panel.now))

pub returns-then-is_broken-clause-counted : goal.returns-then-is_broken-clause-counted
returns-then-is_broken-clause-counted g c = call_counted _ _ _ _ _ _ refl

pub returns-in-Some-found-clause-noted : goal.returns-in-Some-found-clause-noted
returns-in-Some-found-clause-noted g c =
    rw (since_nothing (g.P.Panel.history c.args.panel.now), ← c.principal.ensures, c.in-Some.is) (rw c.in-Some-found.is at c.look-session.ensures.noted)

pub returns-in-Some-found-clause-counted : goal.returns-in-Some-found-clause-counted
returns-in-Some-found-clause-counted g c = call_counted _ _ _ _ _ _ refl

pub returns-in-None-clause-turn : goal.returns-in-None-clause-turn
returns-in-None-clause-turn g c = c.snap.ensures.turn c.args.self (sym c.principal.ensures ∙ c.in-Some.is) (rw c.in-None.is at c.look-session.ensures.looked)

pub returns-in-None-clause-noted : goal.returns-in-None-clause-noted
returns-in-None-clause-noted g c =
    let missed = rw c.in-None.is at c.look-session.ensures.looked in
    let same = c.look-session.ensures.unnoted c.in-None.is in
    noted_here c.args.self c.look-session.result.0 _ (sym c.principal.ensures ∙ c.in-Some.is) missed.board_is (rw same at c.snap.ensures.noted)

pub returns-in-None-clause-counted : goal.returns-in-None-clause-counted
returns-in-None-clause-counted g c = call_counted _ _ _ _ _ _ c.snap.ensures.book.1

pub returns-in_default-clause-idle : goal.returns-in_default-clause-idle
returns-in_default-clause-idle g c = λ broken. (refl, since_nothing (g.P.Panel.history c.args.panel.now))

pub returns-then-is_broken-clause-idle : goal.returns-then-is_broken-clause-idle
returns-then-is_broken-clause-idle g c = λ broken. (refl, since_nothing (g.P.Panel.history c.args.panel.now))

-- a keeper whose record was cut off is asked for no other
pub returns-in-Some-found-clause-idle : goal.returns-in-Some-found-clause-idle
returns-in-Some-found-clause-idle g c = λ broken. absurd (cc (sym c.is_broken.ensures.broken ∙ c.if-is_broken.false, broken))

pub returns-in-None-clause-idle : goal.returns-in-None-clause-idle
returns-in-None-clause-idle g c = λ broken. absurd (cc (sym c.is_broken.ensures.broken ∙ c.if-is_broken.false, broken))
