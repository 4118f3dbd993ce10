use Rattle.nexus_drill.proofs.Drilling.{first_fits, first_more}
use Rattle.nexus_drill.proofs.worker_frames.first_frames.Goals as goal

pub append-requires : goal.append-requires
append-requires c = first_fits c.args.worker c.requires.worker c.loop-place.place c.in_ok-request.request c.in_ok-request.ensures

pub loop-place-preserved : goal.loop-place-preserved
loop-place-preserved c =
    first_more c.args.worker c.loop-place.place c.in_ok-request.request c.loop-place.frames c.append.new.frames c.in_ok-request.ensures c.loop-place.invariant c.in_ok-append.ensures
