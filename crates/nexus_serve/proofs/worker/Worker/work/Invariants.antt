use Rattle.std.proofs.Common.{◌≡◌, length}
use Rattle.nexus_serve.specs.Means.{means_history}
use Rattle.nexus_serve.specs.Inner.Working.{IsWorking}
use Rattle.nexus_serve.proofs.worker.Worker.work.Given as goal

abbrev pub invariant-loop-alloc : goal.invariant-loop-alloc
invariant-loop-alloc g l = (g.B.BookAccess.board l.book ≡ l.board) × IsWorking (means_history g.P.Panel.history) l.board (g.B.BookAccess.unrecorded l.book) l.fn.self l.self

abbrev pub decreases-loop-alloc : goal.decreases-loop-alloc
decreases-loop-alloc g l = length l.self.passes
