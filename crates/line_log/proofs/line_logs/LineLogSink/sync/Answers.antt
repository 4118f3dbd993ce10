use Rattle.line_log.specs.LineLogs.{synced}
use Rattle.line_log.proofs.line_logs.LineLogSink.sync.Goals as goal

pub invariant_of-self : goal.invariant_of-self
invariant_of-self g c = rw c.of.ensures (synced c.self.invariant)
