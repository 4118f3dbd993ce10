use Rattle.std.proofs.Common.{Bool, true, subst}
use Rattle.policy_book.specs.Books.{HasWritten}
use Rattle.policy_book.proofs.Texts.{draft_put}
use Rattle.policy_book.proofs.pens.Pen.write.Goals as goal

pub returns-clause-text : goal.returns-clause-text
returns-clause-text g c =
    let pen = c.args.self.now in
    let draft = c.args.draft.now in
    draft_put g.K.Sink.sent g.K.Sink.synced g.K.Sink.faults draft.pass.board draft c.args.line.now (g.K.Sink.sent pen.start.value) (g.K.Sink.faults pen.start.value) pen.sink c.put-self.new.sink c.put-self.result c.requires.draft c.requires.line
    (subst (λ (b : Bool). HasWritten {K = g.row.K.Denot} g.K.Sink.sent g.K.Sink.synced g.K.Sink.faults true b draft.pass.board draft.pass.seen (g.K.Sink.sent pen.start.value) (g.K.Sink.faults pen.start.value) pen.sink) c.requires.unbroken c.requires.text)
    c.put-self.ensures.put c.put-self.ensures.later
