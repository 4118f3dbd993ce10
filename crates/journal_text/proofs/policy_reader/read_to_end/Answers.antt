use Rattle.journal_text.proofs.PolicyReading.{unended_error}
use Rattle.journal_text.proofs.policy_reader.read_to_end.Goals as goal

pub returns-else-ended-clause-err : goal.returns-else-ended-clause-err
returns-else-ended-clause-err c = unended_error c.args.most_session c.if-ended.false c.in-Ok.ensures.ok
