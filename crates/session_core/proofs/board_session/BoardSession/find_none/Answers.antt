use Rattle.std.proofs.Common.{[], refl}
use Rattle.audit_check.specs.declared.records.Recorded.TheVariants.{NoObject}
use Rattle.session_core.proofs.board_session.BoardSession.find_none.Goals as goal

pub note-requires-clause-who : goal.note-requires-clause-who
note-requires-clause-who g c = (_, c.requires.who.0, c.requires.who.1)

pub note-requires-clause-due : goal.note-requires-clause-due
note-requires-clause-due g c = (c.args.at, NoObject, (refl, refl, refl))

pub returns-then-note-clause-noted : goal.returns-then-note-clause-noted
returns-then-note-clause-noted g c = λ p arg who. c.note.ensures.sent c.if-note.true _ p arg c.args.at NoObject [] _ who refl (refl, refl, refl) (refl, refl, refl)

pub returns-clause-noted : goal.returns-clause-noted
returns-clause-noted g c = λ p arg who. c.note.ensures.cut c.if-note.false _ p arg c.args.at NoObject [] who refl (refl, refl, refl)
