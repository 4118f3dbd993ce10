use Rattle.std.proofs.Common.{◌≡◌, ◌≤◌, ◌-◌, length, take}
use Rattle.nx_io.specs.Links.{KeepsGoing, KeepsOrigin}
use Rattle.session_wire.specs.Answers.{over_after_taking}
use Rattle.session_wire.specs.Inner.Taking.{AreBytes, Takes}
use Rattle.session_wire.proofs.filling.fill.Given as goal

abbrev pub invariant-loop-done : goal.invariant-loop-done
invariant-loop-done g l = record {
  fit : AreBytes l.into;
  within : l.done ≤ length l.into;
  bytes : Takes (g.L.Link.left l.fn.link) (g.L.Link.left l.link) (g.L.Link.taken l.fn.link) (g.L.Link.taken l.link) (take l.done l.into);
  over : g.L.Link.over l.link ≡ over_after_taking (take l.done l.into) (g.L.Link.over l.fn.link);
  going : KeepsGoing (g.L.Link.sent l.fn.link) (g.L.Link.sent l.link) (g.L.Link.closed l.fn.link) (g.L.Link.closed l.link);
  origin : KeepsOrigin (g.L.Link.place l.fn.link) (g.L.Link.place l.link) (g.L.Link.toward l.fn.link) (g.L.Link.toward l.link);
  admitted : g.L.Link.admitted l.link ≡ g.L.Link.admitted l.fn.link;
  count : g.L.Link.faults l.link ≡ g.L.Link.faults l.fn.link;
}

abbrev pub decreases-loop-done : goal.decreases-loop-done
decreases-loop-done g l = length l.into - l.done
