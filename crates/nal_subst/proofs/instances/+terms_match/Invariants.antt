use Rattle.std.proofs.Common.{length}
use Rattle.nal_subst.proofs.instances.+terms_match.Given as goal

abbrev pub decreases-terms_match : goal.decreases-terms_match
decreases-terms_match g l = length l.us.now
