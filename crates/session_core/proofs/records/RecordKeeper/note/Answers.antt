use Rattle.std.proofs.Common.{sym, ◌∙◌}
use Rattle.session_core.proofs.Noting.{written_cut, written_sent}
use Rattle.session_core.proofs.records.RecordKeeper.note.Goals as goal

pub returns-in-Ready-clause-written : goal.returns-in-Ready-clause-written
returns-in-Ready-clause-written g c = λ p at v due.
    let is = rw c.in-Some.is at c.self.view_is in
    written_sent (sym is) (c.as_slice.ensures.value ∙ c.record_line-line.ensures.written p at v due) (rw c.in-Ready.is at c.send_all.ensures.bytes) (rw c.in-Ready.is at c.send_all.ensures.count)

pub returns-in-Failed-clause-written : goal.returns-in-Failed-clause-written
returns-in-Failed-clause-written g c = λ p at v due.
    let is = rw c.in-Some.is at c.self.view_is in
    written_cut (sym is) (c.as_slice.ensures.value ∙ c.record_line-line.ensures.written p at v due) (rw c.in-Failed.is at c.send_all.ensures.bytes) (rw c.in-Failed.is at c.send_all.ensures.count)
