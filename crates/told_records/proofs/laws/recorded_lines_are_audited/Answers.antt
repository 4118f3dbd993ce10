use Rattle.told_records.proofs.Added.{added_are_kept}
use Rattle.told_records.proofs.Audited.{fresh_keepers_are_audited, right_keepers_are_audited}
use Rattle.told_records.proofs.laws.recorded_lines_are_audited.Goals as goal

pub returns-clause-added : goal.returns-clause-added
returns-clause-added c = added_are_kept

pub returns-clause-right : goal.returns-clause-right
returns-clause-right c = right_keepers_are_audited

pub returns-clause-fresh : goal.returns-clause-fresh
returns-clause-fresh c = fresh_keepers_are_audited
