use Rattle.std.proofs.Common.{length}
use Rattle.nal_parse.proofs.terms.+read_names.Given as goal

abbrev pub decreases-read_names : goal.decreases-read_names
decreases-read_names l = length l.reader.now.text.now
