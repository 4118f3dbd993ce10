use Rattle.std.proofs.Common.{length}
use Rattle.nal_parse.proofs.lengths.+terms_length.Given as goal

abbrev pub decreases-terms_length : goal.decreases-terms_length
decreases-terms_length l = length l.terms.now
