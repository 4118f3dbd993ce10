use Rattle.std.proofs.Common.{ap, arith, sym, ◌∙◌}
use Rattle.nx_io.proofs.Waiting.{waiting-popped}
use Rattle.nx_io.proofs.queues.Queue.pop_into.Goals as goal

-- What waited is the part that stands in the buffer now, and then what waits.
pub returns-clause-waiting : goal.returns-clause-waiting
returns-clause-waiting c =
    ap (λ q. q.waiting) (sym c.self.view_is)
    ∙ waiting-popped c.self.inside.bytes _ c.args.into.now c.self.inside.start c.self.inside.end c.min-count.result _ (omega arith) (omega arith) (omega arith) c.copy_from_slice.ensures.after
