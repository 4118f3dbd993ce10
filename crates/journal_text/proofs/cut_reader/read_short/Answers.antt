use Rattle.journal_text.proofs.OneCut.{cut_read, cut_told}
use Rattle.journal_text.proofs.cut_reader.read_short.Goals as goal

pub returns-clause-ok : goal.returns-clause-ok
returns-clause-ok c = cut_read c.args.text.now c.kept_of.result.now c.read_kept.result c.requires c.kept_of.ensures.kept c.read_kept.ensures.ok

pub returns-clause-err : goal.returns-clause-err
returns-clause-err c = cut_told c.args.text.now c.kept_of.result.now c.read_kept.result c.requires c.kept_of.ensures.kept c.read_kept.ensures.err
