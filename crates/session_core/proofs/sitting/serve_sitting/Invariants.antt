use Rattle.std.proofs.Common.{◌≡◌, ◌≤◌, ◌*◌, false, length}
use Rattle.nx_io.specs.Links.{KeepsOrigin}
use Rattle.nx_io.specs.Streams.{Gave}
use Rattle.session_core.specs.Inner.Sittings.{IsSitting}
use Rattle.session_core.proofs.sitting.serve_sitting.Given as goal

abbrev pub invariant-loop : goal.invariant-loop
invariant-loop g l = record {
  ready : g.S.Sitting.ready l.sitting l.book l.panel;
  serving : IsSitting (g.S.Sitting.told l.fn.sitting l.fn.book l.fn.panel l.sitting l.book l.panel) (g.L.Link.taken l.link) (g.L.Link.sent l.link) l.counter;
  reader : l.reader ≡ length (g.L.Link.taken l.link);
  few : l.reader ≤ 33796 * l.counter;
  bytes : Gave (g.L.Link.left l.fn.link) (g.L.Link.left l.link) (g.L.Link.taken l.fn.link) (g.L.Link.taken l.link);
  over : g.L.Link.over l.link ≡ false;
  is_open : g.L.Link.closed l.link ≡ false;
  origin : KeepsOrigin (g.L.Link.place l.fn.link) (g.L.Link.place l.link) (g.L.Link.toward l.fn.link) (g.L.Link.toward l.link);
  admitted : g.L.Link.admitted l.link ≡ g.S.Sitting.admitted l.sitting;
  link : g.L.Link.faults l.link ≡ g.L.Link.faults l.fn.link;
}
