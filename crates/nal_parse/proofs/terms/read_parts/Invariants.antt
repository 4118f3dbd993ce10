use Rattle.std.proofs.Common.{length}
use Rattle.nal_term.specs.Trees.{term_tree}
use Rattle.nal_parse.specs.Inner.Reading.{Parts, ends_term}
use Rattle.nal_parse.proofs.Readings.{Reached}
use Rattle.nal_parse.proofs.terms.read_parts.Given as goal

abbrev pub invariant-loop-reader : goal.invariant-loop-reader
invariant-loop-reader l = Reached ends_term (Parts (term_tree l.term)) (Parts (term_tree l.fn.first)) 0 l.fn.reader.text.now l.reader.text.now 0

abbrev pub decreases-loop-reader : goal.decreases-loop-reader
decreases-loop-reader l = length l.reader.text.now
