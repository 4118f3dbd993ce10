use Rattle.std.proofs.Common.{length}
use Rattle.nal_parse.proofs.printer.Printer.+terms.Given as goal

abbrev pub decreases-terms : goal.decreases-terms
decreases-terms l = length l.terms.now
