use Rattle.std.proofs.Common.{◌≡◌}
use Rattle.nexus_drill.specs.Drills.{totals}
use Rattle.service_drill.proofs.Tallying.{run_told, same_totals}
use Rattle.service_drill.proofs.running.drill_text.Goals as goal

pub returns-clause-run : goal.returns-clause-run
returns-clause-run g c =
    let same : c.in_ok-counted.counted ≡ c.drill_totals.result = same_totals c.in_ok-counted.counted c.drill_totals.result c.if-ne.ensures in
    run_told c.args.number c.args.workers c.args.calls c.in_ok-counted.counted c.drill_totals.result (totals c.args.number c.args.workers c.args.calls) c.drill_line.result
    c.in_ok-counted.ensures same c.drill_totals.ensures.totals
