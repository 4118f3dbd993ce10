use Rattle.session_core.proofs.BoardCalls.{taken_at}
use Rattle.session_core.proofs.board_session.BoardSession.judge.Goals as goal

pub found-requires-clause-who : goal.found-requires-clause-who
found-requires-clause-who g c = (c.args.principal, c.requires.who)

pub returns-in-Ok-clause-checked : goal.returns-in-Ok-clause-checked
returns-in-Ok-clause-checked g c = c.found.ensures.checked c.args.principal _ c.in-Ok.ensures.judged

pub returns-in-Ok-clause-noted : goal.returns-in-Ok-clause-noted
returns-in-Ok-clause-noted g c = c.found.ensures.noted c.args.principal _ c.requires.who c.in-Ok.ensures.judged

pub down-requires-clause-who : goal.down-requires-clause-who
down-requires-clause-who g c = (c.args.principal, c.requires.who)

pub down-requires-clause-at : goal.down-requires-clause-at
down-requires-clause-at g c = taken_at c.args.self _ c.requires.snap.at_is

pub down-requires-clause-broken : goal.down-requires-clause-broken
down-requires-clause-broken g c = (_, rw c.in-Err-Down.field-0-is at c.in-Err-Down.ensures.broken_off)

pub returns-in-Err-Down-clause-checked : goal.returns-in-Err-Down-clause-checked
returns-in-Err-Down-clause-checked g c = c.down.ensures.checked c.args.principal c.args.arg _ (rw c.in-Err-Down.field-0-is at c.in-Err-Down.ensures.broken_off)

pub returns-in-Err-Down-clause-noted : goal.returns-in-Err-Down-clause-noted
returns-in-Err-Down-clause-noted g c = c.down.ensures.noted c.args.principal c.args.arg _ c.requires.who (rw c.in-Err-Down.field-0-is at c.in-Err-Down.ensures.broken_off)
