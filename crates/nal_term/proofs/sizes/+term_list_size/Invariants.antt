use Rattle.std.proofs.Common.{length}
use Rattle.nal_term.proofs.sizes.+term_list_size.Given as goal

abbrev pub decreases-term_list_size : goal.decreases-term_list_size
decreases-term_list_size l = length l.ts.now
