use Rattle.std.proofs.Common.{length}
use Rattle.nal_parse.proofs.terms.+read_arguments.Given as goal

abbrev pub decreases-read_arguments : goal.decreases-read_arguments
decreases-read_arguments l = length l.reader.now.text.now
