use Rattle.std.proofs.Common.{refl}
use Rattle.nx_io.proofs.ForCallers.{gained-by}
use Rattle.nexus_run.specs.LoadRuns.{cut_off}
use Rattle.nexus_run.proofs.load.load.Goals as goal

pub returns-clause-ends : goal.returns-clause-ends
returns-clause-ends g c =
    let part = c.in-Failed.ensures.bytes in
    cut_off c.as_slice.result.now refl (rw (← c.as_slice.ensures) at c.in-Ok.ensures) (part.0, part.1, gained-by (g.K.Sink.sent c.args.output.now) (g.K.Sink.sent c.send_all.new.sink) _ part.2) c.in-Failed.ensures.count
