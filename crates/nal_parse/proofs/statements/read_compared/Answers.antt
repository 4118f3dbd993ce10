use Rattle.std.proofs.Common.{[], Err}
use Rattle.nal_term.specs.Trees.{term_tree}
use Rattle.nal_term.specs.Trees as tree
use Rattle.nal_parse.specs.Inner.Reading.{Terms, ends_term, ends_unary}
use Rattle.nal_parse.proofs.Readings.{made_reads, made_handed, handed_stop, narrow_reads, narrow_reading}
use Rattle.nal_parse.proofs.StatementReadings.{term_ends}
use Rattle.nal_parse.proofs.statements.read_compared.Goals as goal

pub returns-in-Ok-leaf-clause-reading : goal.returns-in-Ok-leaf-clause-reading
returns-in-Ok-leaf-clause-reading c = made_reads (λ u. tree.test c.args.compare (term_tree c.args.left) u) _ c.in-Ok-leaf.ensures (narrow_reads term_ends c.in-Ok.ensures.reading)

pub returns-in-Err-clause-reading : goal.returns-in-Err-clause-reading
returns-in-Err-clause-reading c =
    handed_stop c.args.reader.now.text.now (made_handed (λ u. tree.test c.args.compare (term_tree c.args.left) u) ends_unary Terms 0) c.in-Err.stop
    (narrow_reading term_tree ends_term ends_unary Terms 0 c.args.reader.now.text.now [] (Err c.in-Err.stop) term_ends c.in-Err.ensures.reading)
