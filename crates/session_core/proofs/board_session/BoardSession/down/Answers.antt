use Rattle.std.proofs.Common.{refl, ◌∙◌}
use Rattle.audit_check.specs.declared.records.Recorded.TheVariants.{Down}
use Rattle.session_core.specs.Inner.Boarding.{settled_down}
use Rattle.session_core.proofs.BoardCalls.{cut_checked, down_checked}
use Rattle.session_core.proofs.Given.{down_known}
use Rattle.session_core.proofs.board_session.BoardSession.down.Goals as goal

pub answers_of-answers-requires : goal.answers_of-answers-requires
answers_of-answers-requires g c = record { right = (_, down_known _ c.requires.broken.0 _ c.requires.broken.1) }

pub note-requires-clause-who : goal.note-requires-clause-who
note-requires-clause-who g c = (_, c.requires.who.0, c.requires.who.1)

pub note-requires-clause-due : goal.note-requires-clause-due
note-requires-clause-due g c = (c.args.taken.now.at, Down c.args.line, (refl, refl))

pub returns-then-not-note-clause-checked : goal.returns-then-not-note-clause-checked
returns-then-not-note-clause-checked g c = λ p arg told broken.
    cut_checked p c.args.op.now c.args.room.op c.args.room.object arg c.args.taken.now.object c.args.taken.now.at c.args.taken.now.place _ c.args.self _ told c.requires.at (settled_down c.args.line broken) refl

pub returns-then-not-note-clause-noted : goal.returns-then-not-note-clause-noted
returns-then-not-note-clause-noted g c = λ p arg told who broken.
    c.note.ensures.cut c.if-not-note.true _ p arg c.args.taken.now.at (Down c.args.line) told who (c.as_slice-given.ensures.answers ∙ c.answers_of-answers.ensures _ (down_known _ told _ broken)) (refl, refl)

pub returns-clause-checked : goal.returns-clause-checked
returns-clause-checked g c = λ p arg told broken.
    down_checked p c.args.op.now c.args.room.op c.args.room.object arg c.args.taken.now.object c.args.taken.now.at c.args.taken.now.place _ c.args.self _ told c.args.line
    c.requires.op c.requires.at broken refl refl c.join-is_known.ensures.known

pub returns-clause-noted : goal.returns-clause-noted
returns-clause-noted g c = λ p arg told who broken.
    c.note.ensures.sent c.if-not-note.false _ p arg c.args.taken.now.at (Down c.args.line) told _ who (c.as_slice-given.ensures.answers ∙ c.answers_of-answers.ensures _ (down_known _ told _ broken)) (refl, refl) (refl, refl)
