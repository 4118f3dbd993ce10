use Rattle.std.proofs.Common.{◌≡◌, ap, ◌∙◌, arith}
use Rattle.nexus_serve.specs.Means.{means_history}
use Rattle.nexus_serve.specs.declared.means.Means.{Means}
use Rattle.nexus_serve.specs.Inner.Working.{WorkerValue}
use Rattle.nexus_serve.proofs.Working.{done_counted, working_first}
use Rattle.nexus_serve.proofs.worker.Worker.work_behind_locks.Goals as goal

pub work-requires-clause-working : goal.work-requires-clause-working
work-requires-clause-working g c =
    working_first (means_history g.P.Panel.history) c.args.board.now _ c.new-book.result.unrecorded c.split_off.new.self.parts c.split_off.new.self.amount (rw (← c.self.view_is) at c.requires.hired)

pub returns : goal.returns
returns g c =
    let left = c.split_off.ensures.amount_left in
    let hired = ap (λ w. w.unrecorded) c.self.view_is ∙ c.requires.hired.recorded in
    let none : c.split_off.new.self.amount ≡ 0 = omega (arith, left, hired) in
    let held = ap (λ w. w.unrecorded) c.self-2.view_is in
    let mine = c.into_mark.ensures.amount in
    let merged = c.merge.ensures.amount in
    record {
      done = done_counted (means_history g.P.Panel.history) c.args.board.now c.args.self.now c.work.new.book.unrecorded _ c.work.new.self _ c.work.ensures.stopped
          (ap (λ (w : WorkerValue (Means g.row.P.Denot g.row.C.Denot)). record w { parts = c.split_off.new.self.parts; unrecorded = c.split_off.new.self.amount }) c.self.view_is) none
          (ap (λ (w : WorkerValue (Means g.row.P.Denot g.row.C.Denot)). record w { parts = c.merge.new.self.parts; unrecorded = c.merge.new.self.amount }) c.self-2.view_is) (omega (arith, held, mine, merged));
    }
