use Rattle.nexus_drill.proofs.Drilling.{fits_as, frames_more, next_draw, next_set}
use Rattle.nexus_drill.proofs.worker_frames.drill_frames.Goals as goal

pub append-requires : goal.append-requires
append-requires c = fits_as c.args.worker c.draw_of-draw.result c.loop-place.is_set c.in_ok-request.request c.requires.worker c.in_ok-request.ensures

pub loop-place-preserved : goal.loop-place-preserved
loop-place-preserved c =
    let next =
    next_draw c.args.number c.args.worker c.loop-place._place c.loop-place.x c.next-x.result c.draw_of-draw.result c.loop-place.invariant.0 c.next-x.ensures c.draw_of-draw.ensures in (
      next.0,
      next_set c.args.number c.args.worker c.loop-place._place c.draw_of-draw.result c.loop-place.is_set c.set_after-is_set.result next.1 c.loop-place.invariant.1 c.set_after-is_set.ensures,
      frames_more c.args.number c.args.worker c.loop-place._place c.draw_of-draw.result c.loop-place.is_set c.in_ok-request.request c.loop-place.frames c.append.new.frames next.1 c.loop-place.invariant.1 c.in_ok-request.ensures
          c.loop-place.invariant.2 c.in_ok-append.ensures,
    )
