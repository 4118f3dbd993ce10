use Rattle.std.proofs.Common.{Some, None, sym, refl, ◌∙◌}
use Rattle.session_core.proofs.BoardTurns.{again_turn, found_here, given_up_any, unknown_turn, welcome_ready, welcome_turn}
use Rattle.session_core.proofs.Noting.{noted_none}
use Rattle.session_core.proofs.board_session.BoardSession.open.Goals as goal

pub returns-in-Some-clause-turn : goal.returns-in-Some-clause-turn
returns-in-Some-clause-turn g c = again_turn c.args.self c.args.name.now c.args.secret.now _ _ (sym c.principal.ensures ∙ c.in-Some.is) c.at-at.ensures.length

pub returns-in_default-found-clause-turn : goal.returns-in_default-found-clause-turn
returns-in_default-found-clause-turn g c =
    unknown_turn c.args.self c.args.name.now c.args.secret.now _ (sym c.principal.ensures ∙ c.in_default.is)
    (found_here _ c.args.self c.args.name.now c.args.secret.now c.admit-found.result None c.requires.ready c.admit-found.ensures.number c.in_default-found.is) c.at-at.ensures.length

pub returns-in_default-copy-clause-turn : goal.returns-in_default-copy-clause-turn
returns-in_default-copy-clause-turn g c = given_up_any c.args.self _ (λ k same. cc same)

pub returns-clause-turn : goal.returns-clause-turn
returns-clause-turn g c =
    welcome_turn c.args.self c.args.name.now c.args.secret.now c.in-Some-found.number _ _ (record { number = c.in-Some-found.number; name = c.in-Ok.name }) (sym c.principal.ensures ∙ c.in_default.is)
    (found_here _ c.args.self c.args.name.now c.args.secret.now c.admit-found.result (Some c.in-Some-found.number) c.requires.ready c.admit-found.ensures.number c.in-Some-found.is)
    refl c.at-at.ensures.length c.session-session.ensures.session

pub returns-clause-ready : goal.returns-clause-ready
returns-clause-ready g c =
    welcome_ready _ c.args.self (record { number = c.in-Some-found.number; name = c.in-Ok.name }) c.args.name.now c.args.secret.now c.requires.ready (sym c.principal.ensures ∙ c.in_default.is)
    c.in-Some-found.ensures.within c.in-Ok.ensures (sym c.admit-found.ensures.number ∙ c.in-Some-found.is)

pub returns-in-Some-clause-noted : goal.returns-in-Some-clause-noted
returns-in-Some-clause-noted g c = λ asks kept. noted_none (λ call. absurd call)

pub returns-in_default-found-clause-noted : goal.returns-in_default-found-clause-noted
returns-in_default-found-clause-noted g c = λ asks kept. noted_none (λ call. absurd call)

pub returns-in_default-copy-clause-noted : goal.returns-in_default-copy-clause-noted
returns-in_default-copy-clause-noted g c = λ asks kept. noted_none (λ call. absurd call)

pub returns-clause-noted : goal.returns-clause-noted
returns-clause-noted g c = λ asks kept. noted_none (λ call. absurd call)
