use Rattle.std.proofs.Common.{◌≡◌, ◌≤◌, length, All}
use Rattle.nexus_serve.specs.Inner.Gathering.{gathered_all}
use Rattle.nexus_serve.proofs.gathered.Gathered.gather.Given as goal

abbrev pub invariant-loop-worker : goal.invariant-loop-worker
invariant-loop-worker g l = record {
  same : gathered_all l.gathered l.left.items ≡ gathered_all l.fn.self l.fn.workers.items;
  places : length l.left.items ≤ l.gathered.places;
  counted : All (λ worker. worker.unrecorded ≤ l.total.amount) l.left.items → All (λ worker. worker.unrecorded ≤ l.total.amount) l.fn.workers.items;
}

abbrev pub decreases-loop-worker : goal.decreases-loop-worker
decreases-loop-worker g l = length l.left.items
