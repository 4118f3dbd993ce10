use Rattle.std.proofs.Common.{length}
use Rattle.proof_text.proofs.printer.+append_lines.Given as goal

abbrev pub decreases-append_lines : goal.decreases-append_lines
decreases-append_lines l = length l.lines.now
