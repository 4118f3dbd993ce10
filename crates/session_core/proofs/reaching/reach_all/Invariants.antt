use Rattle.std.proofs.Common.{◌≡◌, ◌++◌, map, take}
use Rattle.session_core.specs.Reaching.{reached_at}
use Rattle.session_core.proofs.reaching.reach_all.Given as goal

abbrev pub invariant-loop-place : goal.invariant-loop-place
invariant-loop-place g l = record {
  so_far : g.P.Panel.history l.panel ≡ record (g.P.Panel.history l.fn.panel) { calls = (g.P.Panel.history l.fn.panel).calls ++ map reached_at (take l.place l.head.authorities) };
}
