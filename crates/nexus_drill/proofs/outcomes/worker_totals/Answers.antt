use Rattle.std.proofs.Common.{◌≡◌, ◌∙◌, ◌+◌, ap, arith}
use Rattle.nexus_drill.proofs.Drilling.{all_of, worker_counted}
use Rattle.nexus_drill.proofs.outcomes.worker_totals.Goals as goal

pub plus-sum-requires-clause-a : goal.plus-sum-requires-clause-a
plus-sum-requires-clause-a c =
    let counted : all_of c.loop-place.sum ≡ 6 + c.loop-place._place = ap all_of c.loop-place.invariant.2 ∙ worker_counted c.args.number c.args.worker c.loop-place._place in
    omega (arith, counted, c.loop-place-test.true, c.requires)

pub returns-clause-counted : goal.returns-clause-counted
returns-clause-counted c =
    let counted : all_of c.loop-place.sum ≡ 6 + c.loop-place._place = ap all_of c.loop-place.invariant.2 ∙ worker_counted c.args.number c.args.worker c.loop-place._place in
    omega (arith, counted, c.loop-place-test.false, c.loop-place.auto._place-end)
