use Rattle.std.proofs.Common.{length}
use Rattle.nal_term.proofs.terms.+equal_term_lists_counted.Given as goal

abbrev pub decreases-equal_term_lists_counted : goal.decreases-equal_term_lists_counted
decreases-equal_term_lists_counted g l = length l.a.now
