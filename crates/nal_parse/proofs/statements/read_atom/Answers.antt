use Rattle.std.proofs.Common.{ap}
use Rattle.nal_term.specs.Trees.{term_trees}
use Rattle.nal_term.specs.Trees as tree
use Rattle.nal_parse.specs.Inner.Reading.{Arguments, anything}
use Rattle.nal_parse.proofs.Readings.{step_reads, step_stopped, made_reads, made_handed, handed_stop}
use Rattle.nal_parse.proofs.StatementReadings.{arguments_step}
use Rattle.nal_parse.proofs.statements.read_atom.Goals as goal

pub returns-in-Ok-atom_of-clause-reading : goal.returns-in-Ok-atom_of-clause-reading
returns-in-Ok-atom_of-clause-reading c =
    made_reads (λ ts. tree.atom c.args.predicate.now ts) _ c.in-Ok-atom_of.ensures (step_reads (arguments_step _ c.args.reader.now.text.now (ap term_trees c.new.ensures)) c.in-Ok.ensures.reading)

pub returns-in-Err-clause-reading : goal.returns-in-Err-clause-reading
returns-in-Err-clause-reading c =
    handed_stop c.args.reader.now.text.now (made_handed (λ ts. tree.atom c.args.predicate.now ts) anything Arguments 0) c.in-Err.stop
    (step_stopped (arguments_step _ c.args.reader.now.text.now (ap term_trees c.new.ensures)) c.in-Err.stop c.in-Err.ensures.reading)
