use Rattle.line_log.specs.LineLogs.{new}
use Rattle.line_log.proofs.line_logs.LineLog.new.Goals as goal

pub invariant_of-result : goal.invariant_of-result
invariant_of-result g c = rw (c.requires, c.of.ensures) new
