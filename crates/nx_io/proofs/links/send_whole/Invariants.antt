use Rattle.std.proofs.Common.{◌≡◌, ◌-◌, length}
use Rattle.nx_io.specs.Links.{KeepsComing, KeepsOrigin}
use Rattle.nx_io.proofs.Told.{IsSending}
use Rattle.nx_io.proofs.links.send_whole.Given as goal

abbrev pub invariant-loop-done : goal.invariant-loop-done
invariant-loop-done g l =
    IsSending (g.L.Link.sent l.fn.link) (g.L.Link.sent l.link) (g.L.Link.faults l.fn.link) (g.L.Link.faults l.link) l.piece l.done
    × (g.L.Link.closed l.link ≡ g.L.Link.closed l.fn.link)
    × KeepsComing (g.L.Link.left l.fn.link) (g.L.Link.left l.link) (g.L.Link.taken l.fn.link) (g.L.Link.taken l.link) (g.L.Link.over l.fn.link) (g.L.Link.over l.link)
    × KeepsOrigin (g.L.Link.place l.fn.link) (g.L.Link.place l.link) (g.L.Link.toward l.fn.link) (g.L.Link.toward l.link)
    × (g.L.Link.admitted l.link ≡ g.L.Link.admitted l.fn.link)

abbrev pub decreases-loop-done : goal.decreases-loop-done
decreases-loop-done g l = length l.piece - l.done
