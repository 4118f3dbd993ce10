use Rattle.std.proofs.Common.{length}
use Rattle.proof_text.proofs.lengths.+lines_length.Given as goal

abbrev pub decreases-lines_length : goal.decreases-lines_length
decreases-lines_length l = length l.lines.now
