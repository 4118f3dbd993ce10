use Rattle.std.proofs.Common.{length}
use Rattle.nal_term.proofs.free.+covers_terms.Given as goal

abbrev pub decreases-covers_terms : goal.decreases-covers_terms
decreases-covers_terms g l = length l.ts.now
