use Rattle.service_drill.proofs.Tallying.{run_counted}
use Rattle.service_drill.proofs.running.counted.Goals as goal

pub returns : goal.returns
returns g c = run_counted c.args.number c.args.workers c.args.calls c.in_ok-served.served c.count.result c.in_ok-served.ensures c.count.ensures
