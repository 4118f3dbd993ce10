use Rattle.std.proofs.Common.{[], map}
use Rattle.service_drill.specs.Inner.{view_of}
use Rattle.service_drill.specs.Runs.{door_of, each, head_of, silent}
use Rattle.service_drill.proofs.Tallying.{serves_so}
use Rattle.service_drill.proofs.running.served.Goals as goal

pub returns : goal.returns
returns g c =
    serves_so c.in_ok-journal.journal.head (head_of c.args.workers) c.in_ok-journal.journal.entries [] c.new.result (record { sent = []; synced = 0 }) (map view_of c.in_ok-doors.doors.items) (each c.args.workers (door_of c.args.number c.args.calls))
    c.in_ok-means.means.items (each c.args.workers silent) c.serve-served.result c.in_ok-journal.ensures.head c.in_ok-journal.ensures.entries c.new.ensures c.in_ok-doors.ensures.doors c.in_ok-means.ensures.means
    c.serve-served.ensures.served
