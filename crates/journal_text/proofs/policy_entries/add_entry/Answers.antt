use Rattle.std.proofs.Common.{refl}
use Rattle.journal_text.proofs.policy_entries.add_entry.Goals as goal

pub returns-in-Err-Bad-clause-bad : goal.returns-in-Err-Bad-clause-bad
returns-in-Err-Bad-clause-bad c = λ _. (rw (c.in-Err-Bad.field-0-is, c.head.ensures) at c.in-Err-Bad.ensures.bad) refl
