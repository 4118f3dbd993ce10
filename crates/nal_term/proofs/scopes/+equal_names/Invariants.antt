use Rattle.std.proofs.Common.{length}
use Rattle.nal_term.proofs.scopes.+equal_names.Given as goal

abbrev pub decreases-equal_names : goal.decreases-equal_names
decreases-equal_names l = length l.a.now
