use Rattle.authority_ask.proofs.ForCallers.{only_nothing, since_nothing}
use Rattle.session_core.proofs.BoardTurns.{quiet_counted}
use Rattle.session_core.proofs.board_session.BoardSession.answer.Goals as goal

pub change-requires-clause-wants : goal.change-requires-clause-wants
change-requires-clause-wants g c = c.in_default.not-See

pub returns-in-See-clause-ready : goal.returns-in-See-clause-ready
returns-in-See-clause-ready g c = rw c.requires.named at c.see.ensures.ready

pub returns-in-See-clause-turn : goal.returns-in-See-clause-turn
returns-in-See-clause-turn g c = rw (since_nothing, c.in-See.is) c.see.ensures.turn

pub returns-in-See-clause-asked : goal.returns-in-See-clause-asked
returns-in-See-clause-asked g c = only_nothing _

pub returns-in-See-clause-noted : goal.returns-in-See-clause-noted
returns-in-See-clause-noted g c = rw c.in-See.is (c.see.ensures.noted _ _)

pub returns-in-See-clause-counted : goal.returns-in-See-clause-counted
returns-in-See-clause-counted g c = quiet_counted _ _ _ _ c.see.ensures.book.1 c.see.ensures.recorded

-- a change asks nobody
pub returns-in_default-clause-ready : goal.returns-in_default-clause-ready
returns-in_default-clause-ready g c = rw c.requires.named at c.change.ensures.ready

pub returns-in_default-clause-turn : goal.returns-in_default-clause-turn
returns-in_default-clause-turn g c = rw since_nothing c.change.ensures.turn

pub returns-in_default-clause-asked : goal.returns-in_default-clause-asked
returns-in_default-clause-asked g c = only_nothing _

pub returns-in_default-clause-noted : goal.returns-in_default-clause-noted
returns-in_default-clause-noted g c = c.change.ensures.noted _ _

pub returns-in-Hello-clause-counted : goal.returns-in-Hello-clause-counted
returns-in-Hello-clause-counted g c = quiet_counted _ _ _ _ c.open.ensures.book.1 c.open.ensures.recorded

pub returns-in-Call-clause-noted : goal.returns-in-Call-clause-noted
returns-in-Call-clause-noted g c = rw c.in-Call.is c.call.ensures.noted
