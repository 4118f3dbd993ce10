use Rattle.std.proofs.Common.{length}
use Rattle.proof_text.proofs.printer.+append_references.Given as goal

abbrev pub decreases-append_references : goal.decreases-append_references
decreases-append_references l = length l.refs.now
