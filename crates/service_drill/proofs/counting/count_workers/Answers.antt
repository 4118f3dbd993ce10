use Rattle.service_drill.proofs.Tallying.{workers_more}
use Rattle.service_drill.proofs.counting.count_workers.Goals as goal

pub loop-reports-preserved : goal.loop-reports-preserved
loop-reports-preserved c =
    workers_more c.args.workers.now c.loop-reports.reports-index c.reports-item.result c.loop-reports.allowed c.loop-reports.denied c.in_ok-allowed.allowed c.in_ok-denied.denied
    (c.in_ok-its_allowed.its_allowed, c.in_ok-its_allowed.its_denied) c.loop-reports-test.true c.reports-item.is c.loop-reports.invariant
    c.in_ok-its_allowed.ensures c.in_ok-allowed.ensures c.in_ok-denied.ensures
