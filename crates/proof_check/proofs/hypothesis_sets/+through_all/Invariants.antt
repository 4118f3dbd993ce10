use Rattle.std.proofs.Common.{length}
use Rattle.proof_check.proofs.hypothesis_sets.+through_all.Given as goal

abbrev pub decreases-through_all : goal.decreases-through_all
decreases-through_all l = length l.refs.now
