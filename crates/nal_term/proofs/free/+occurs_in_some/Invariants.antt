use Rattle.std.proofs.Common.{length}
use Rattle.nal_term.proofs.free.+occurs_in_some.Given as goal

abbrev pub decreases-occurs_in_some : goal.decreases-occurs_in_some
decreases-occurs_in_some g l = length l.ts.now
