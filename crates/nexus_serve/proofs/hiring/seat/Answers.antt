use Rattle.std.proofs.Common.{◌≡◌, arith, length, map}
use Rattle.nx_io.specs.Views.{door_view}
use Rattle.nexus_serve.specs.Inner.Desks.{seated}
use Rattle.nexus_serve.proofs.Seating.{all_seated}
use Rattle.nexus_serve.proofs.hiring.seat.Goals as goal

pub returns : goal.returns
returns g c =
    let left = c.loop-desk in
    let gone = c.in_default.ensures.cases.0 in
    let long = c.loop-desk.desks.ok.0 in
    let none : length c.loop-desk.desks.items ≡ 0 = omega (arith, gone, long) in
    all_seated left.workers.items (seated c.args.desks.items (map (door_view g.D.Door g.D.Link.Link) c.args.doors.items) c.args.means.items) left.desks.items (map (door_view g.D.Door g.D.Link.Link) left.doors.items) left.means.items none left.invariant.workers
