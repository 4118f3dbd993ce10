use Rattle.std.proofs.Common.{length}
use Rattle.explain_form.proofs.printer.Printer.+lines.Given as goal

abbrev pub decreases-lines : goal.decreases-lines
decreases-lines l = length l.lines.now
