use Rattle.std.proofs.Common.{◌≡◌, ◌++◌, length, replicate, All}
use Rattle.std.specs.Vec.{vec_capacity}
use Rattle.nx_io.specs.DoorCalls.{shared}
use Rattle.nexus_serve.specs.Inner.Sharing.{IsShareOf}
use Rattle.nexus_serve.proofs.shares.share_door.Given as goal

abbrev pub invariant-loop : goal.invariant-loop
invariant-loop g l = record {
  count : length l.shares.items ≡ l.counter;
  capacity : vec_capacity l.shares ≡ vec_capacity l.fn.shares;
  are_shares : All (IsShareOf g.D.Door.origin g.D.Door.calls l.fn.door) l.shares.items;
  calls : g.D.Door.calls l.door ≡ g.D.Door.calls l.fn.door ++ replicate l.counter shared;
  links : g.D.Door.links l.door ≡ g.D.Door.links l.fn.door;
  origin : g.D.Door.origin l.door ≡ g.D.Door.origin l.fn.door;
}
