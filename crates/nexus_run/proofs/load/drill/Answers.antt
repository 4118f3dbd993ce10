use Rattle.std.proofs.Common.{refl, ◌∙◌}
use Rattle.nx_io.proofs.ForCallers.{gained-by}
use Rattle.nexus_run.specs.LoadRuns.{cut_off, written}
use Rattle.nexus_run.proofs.load.drill.Goals as goal

pub returns-in-Ready-clause-ends : goal.returns-in-Ready-clause-ends
returns-in-Ready-clause-ends g c =
    let whole = gained-by (g.K.Sink.sent c.args.output.now) (g.K.Sink.sent c.send_all.new.sink) _ c.in-Ready.ensures.bytes in
    written refl (record { line_is = whole ∙ c.as_slice.ensures ∙ c.in-Ok.ensures.line; run = c.in-Ok.ensures.run }) c.in-Ready.ensures.count

pub returns-clause-ends : goal.returns-clause-ends
returns-clause-ends g c =
    let part = c.in-Failed.ensures.bytes in
    cut_off c.as_slice.result.now refl (record { line_is = c.as_slice.ensures ∙ c.in-Ok.ensures.line; run = c.in-Ok.ensures.run })
    (part.0, part.1, gained-by (g.K.Sink.sent c.args.output.now) (g.K.Sink.sent c.send_all.new.sink) _ part.2) c.in-Failed.ensures.count
