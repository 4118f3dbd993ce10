use Rattle.std.proofs.Common.{length}
use Rattle.proof_text.proofs.lengths.+references_length.Given as goal

abbrev pub decreases-references_length : goal.decreases-references_length
decreases-references_length l = length l.refs.now
