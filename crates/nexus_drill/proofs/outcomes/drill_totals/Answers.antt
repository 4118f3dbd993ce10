use Rattle.std.proofs.Common.{◌≡◌, ◌∙◌, ◌+◌, ◌*◌, ap, arith}
use Rattle.nexus_drill.proofs.Drilling.{all_counted, all_of, counted_below}
use Rattle.nexus_drill.proofs.outcomes.drill_totals.Goals as goal

pub plus-sum-requires-clause-a : goal.plus-sum-requires-clause-a
plus-sum-requires-clause-a c =
    let counted : all_of c.loop-worker.sum ≡ c.loop-worker.worker * (6 + c.args.calls) = ap all_of c.loop-worker.invariant ∙ all_counted c.args.number c.loop-worker.worker c.args.calls in
    let most = counted_below c.loop-worker.worker c.args.calls c.requires.calls in
    omega (arith, counted, most, c.loop-worker-test.true, c.requires.workers)

pub returns-clause-counted : goal.returns-clause-counted
returns-clause-counted c =
    let all : c.loop-worker.worker ≡ c.args.workers = omega (arith, c.loop-worker-test.false, c.loop-worker.auto.worker-end) in
    ap all_of c.loop-worker.invariant ∙ all_counted c.args.number c.loop-worker.worker c.args.calls ∙ ap (λ n. n * (6 + c.args.calls)) all
