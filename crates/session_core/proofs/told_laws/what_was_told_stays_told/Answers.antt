use Rattle.session_core.proofs.ToldLaws.{told_stays_told, what_was_noted_stays_noted}
use Rattle.session_core.proofs.told_laws.what_was_told_stays_told.Goals as goal

pub returns-clause-told : goal.returns-clause-told
returns-clause-told c = told_stays_told

pub returns-clause-noted : goal.returns-clause-noted
returns-clause-noted c = what_was_noted_stays_noted
