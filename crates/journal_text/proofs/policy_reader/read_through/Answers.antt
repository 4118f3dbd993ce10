use Rattle.journal_text.proofs.PolicyReading.{if_err, if_ok, line_error, read_of}
use Rattle.journal_text.proofs.policy_reader.read_through.Goals as goal

pub returns-clause-ok : goal.returns-clause-ok
returns-clause-ok c = if_ok _ _ c.read_journal.result (λ read later. read_of c.args.most_session c.in-Ok.ensures.ok later) c.read_journal.ensures.ok

pub returns-clause-err : goal.returns-clause-err
returns-clause-err c = if_err _ _ c.read_journal.result (λ e wrong. line_error c.args.text.now c.args.most_session e c.in-Ok.ensures.ok wrong) c.read_journal.ensures.err
