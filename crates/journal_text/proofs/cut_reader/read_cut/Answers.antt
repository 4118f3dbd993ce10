use Rattle.journal_text.proofs.OneCut.{cut_sessions, no_cut, sole_cut}
use Rattle.journal_text.proofs.cut_reader.read_cut.Goals as goal

pub returns-clause-only : goal.returns-clause-only
returns-clause-only c = sole_cut c.args.text.now c.read_short.result c.read_short.ensures.ok

pub returns-clause-sessions : goal.returns-clause-sessions
returns-clause-sessions c = cut_sessions c.args.text.now c.read_short.result c.read_short.ensures.ok

pub returns-clause-refused : goal.returns-clause-refused
returns-clause-refused c = no_cut c.args.text.now c.read_short.result c.read_short.ensures.err
