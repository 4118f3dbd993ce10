use Rattle.std.proofs.Common.{sym}
use Rattle.session_core.proofs.Turns.{reached_more, reached_no_more}
use Rattle.session_core.proofs.reaching.reach_all.Goals as goal

pub loop-place-preserved : goal.loop-place-preserved
loop-place-preserved g c = record {
  so_far = reached_more _ _ _ c.args.head.now.authorities c.loop-place.place c.in-Some.authority.now (sym c.in-Some.ensures) c.loop-place.invariant.so_far
      (rw (← c.as_slice.ensures) c.in-Ready.ensures.history);
}

pub returns-in-Failed : goal.returns-in-Failed
returns-in-Failed g c = record {
  reached = reached_no_more _ _ _ c.args.head.now.authorities c.loop-place.place c.in-Some.authority.now (sym c.in-Some.ensures) c.loop-place.invariant.so_far
      (rw (← c.as_slice.ensures) c.in-Failed.ensures.history);
}
