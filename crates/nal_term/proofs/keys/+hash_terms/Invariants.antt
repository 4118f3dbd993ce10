use Rattle.std.proofs.Common.{length}
use Rattle.nal_term.proofs.keys.+hash_terms.Given as goal

abbrev pub decreases-hash_terms : goal.decreases-hash_terms
decreases-hash_terms g l = length l.terms.now
