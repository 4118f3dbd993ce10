use Rattle.session_core.proofs.Noting.{noted_by_cut, noted_by_sent}
use Rattle.session_core.proofs.board_calls.note.Goals as goal

pub returns-clause-sent : goal.returns-clause-sent
returns-clause-sent g c = λ done h p arg at v asks reply who gave due records_it.
    noted_by_sent h p c.args.op.now c.args.object.now arg at v c.args.answers.now asks who c.in-Some.who c.in-Some.is gave c.requires.whole c.note.ensures.named done reply records_it (c.note.ensures.written p at v due)

pub returns-clause-cut : goal.returns-clause-cut
returns-clause-cut g c = λ done h p arg at v asks who gave due.
    noted_by_cut h p c.args.op.now c.args.object.now arg at v c.args.answers.now asks who c.in-Some.who c.in-Some.is gave c.requires.whole c.note.ensures.named done (c.note.ensures.written p at v due)
