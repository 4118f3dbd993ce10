use Rattle.journal_text.proofs.OnePolicy.{no_reading, sole_reading}
use Rattle.journal_text.proofs.policy_reader.read_policy.Goals as goal

pub returns-clause-only : goal.returns-clause-only
returns-clause-only c = sole_reading c.args.text.now c.read_lines.result c.read_lines.ensures.ok

pub returns-clause-refused : goal.returns-clause-refused
returns-clause-refused c = no_reading c.args.text.now c.read_lines.result c.read_lines.ensures.err
