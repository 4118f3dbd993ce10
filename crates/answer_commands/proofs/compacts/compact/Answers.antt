use Rattle.std.proofs.Common.{List, ℕ, refl, subst, ◌∙◌}
use Rattle.nx_io.proofs.ForCallers.{gained-by}
use Rattle.nx_io.specs.Streams.{gained}
use Rattle.run_streams.specs.Runs.{IsProperPart}
use Rattle.answer_commands.specs.Compacts.{cut_off, written}
use Rattle.answer_commands.proofs.compacts.compact.Goals as goal

pub returns-in-Ready-clause-runs : goal.returns-in-Ready-clause-runs
returns-in-Ready-clause-runs g c =
    let sent = gained-by (g.C.Sink.sent c.args.records.now) (g.C.Sink.sent c.send_all.new.sink) c.as_slice.result.now c.in-Ready.ensures.bytes in
    rw c.of.ensures
    (record {
      text_status = 0;
      text = c.in-Ok.ensures.ok;
      numbers = written c.in-Ok.compacted refl refl c.in-Ok.ensures.answer (sent ∙ c.as_slice.ensures) c.in-Ready.ensures.count;
    })

pub returns-in-Ready-clause-handed : goal.returns-in-Ready-clause-handed
returns-in-Ready-clause-handed g c = rw c.of.ensures (λ three. cc three)

pub returns-in-Ok-clause-runs : goal.returns-in-Ok-clause-runs
returns-in-Ok-clause-runs g c =
    let before = g.C.Sink.sent c.args.records.now in
    let now = g.C.Sink.sent c.send_all.new.sink in
    let part = c.in-Failed.ensures.bytes in
    let proper : IsProperPart (gained before now) c.as_slice.result.now = (part.0, part.1, gained-by before now _ part.2) in
    rw c.of-in-Failed.ensures
    (record {
      text_status = 0;
      text = c.in-Ok.ensures.ok;
      numbers = cut_off c.in-Ok.compacted refl refl c.in-Ok.ensures.answer (subst (λ (all : List ℕ). IsProperPart (gained before now) all) c.as_slice.ensures proper) c.in-Failed.ensures.count;
    })

pub returns-in-Ok-clause-handed : goal.returns-in-Ok-clause-handed
returns-in-Ok-clause-handed g c = rw c.of-in-Failed.ensures (λ three. cc three)
