use Rattle.std.proofs.Common.{◌≡◌, ◌≤◌, ◌+◌, ◌++◌, length, map}
use Rattle.std.specs.Vec.{vec_capacity}
use Rattle.nx_io.specs.Views.{door_view}
use Rattle.nexus_serve.specs.Inner.Desks.{seated}
use Rattle.nexus_serve.proofs.hiring.seat.Given as goal

abbrev pub invariant-loop-desk : goal.invariant-loop-desk
invariant-loop-desk g l = record {
  workers :
      l.workers.items ++ seated l.desks.items (map (door_view g.D.Door g.D.Link.Link) l.doors.items) l.means.items
      ≡ seated l.fn.desks.items (map (door_view g.D.Door g.D.Link.Link) l.fn.doors.items) l.fn.means.items;
  doors : length l.doors.items ≡ length l.desks.items;
  means : length l.means.items ≡ length l.desks.items;
  room : length l.workers.items + length l.desks.items ≤ vec_capacity l.workers;
}

abbrev pub decreases-loop-desk : goal.decreases-loop-desk
decreases-loop-desk g l = length l.desks.items
