use Rattle.std.proofs.Common.{◌≡◌, ◌≤◌, ◌+◌, ◌++◌, length, map}
use Rattle.std.specs.Vec.{vec_capacity}
use Rattle.nx_io.specs.Views.{link_view}
use Rattle.verdict_words.specs.Settling.{items_of}
use Rattle.nexus_serve.specs.Views.{session_view}
use Rattle.nexus_serve.specs.Inner.Gathering.{joined_each}
use Rattle.nexus_serve.proofs.gathered.with_passes.Given as goal

abbrev pub invariant-loop-mine : goal.invariant-loop-mine
invariant-loop-mine g l = record {
  joined :
      l.reports.items ++ joined_each (map (λ mine. map (session_view (link_view g.L.Link)) mine.items) l.sessions.items) (items_of l.passes.items)
      ≡ joined_each (map (λ mine. map (session_view (link_view g.L.Link)) mine.items) l.fn.sessions.items) (items_of l.fn.passes.items);
  room : length l.reports.items + length l.sessions.items ≤ vec_capacity l.reports;
  pairs : map (λ mine. length mine.items) l.sessions.items ≡ map (λ mine. length mine.items) l.passes.items;
}

abbrev pub decreases-loop-mine : goal.decreases-loop-mine
decreases-loop-mine g l = length l.sessions.items
