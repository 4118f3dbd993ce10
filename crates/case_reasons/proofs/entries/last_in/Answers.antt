use Rattle.std.proofs.Common.{sym}
use Rattle.case_reasons.specs.Inner.Deeds.{passes}
use Rattle.case_reasons.proofs.LastEntries.{last_here, none_from}
use Rattle.case_reasons.proofs.entries.last_in.Goals as goal

pub returns-then-is_of : goal.returns-then-is_of
returns-then-is_of c =
    last_here c.args.entries.now c.loop-index.index c.index-entries-index.result c.loop-index-test.true c.loop-index.auto.index c.index-entries-index.is (passes c.args.deed) c.loop-index.invariant (sym c.if-is_of.ensures)

pub loop-index-preserved : goal.loop-index-preserved
loop-index-preserved c =
    none_from c.args.entries.now c.loop-index.index c.index-entries-index.result c.loop-index-test.true c.loop-index.auto.index c.index-entries-index.is (passes c.args.deed) c.loop-index.invariant (sym c.if-is_of.ensures)
