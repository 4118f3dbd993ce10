use Rattle.session_core.proofs.ToldLaws.{only_allowed_runs, only_done_adds}
use Rattle.session_core.proofs.told_laws.only_allowed_calls_run_and_only_changes_add.Goals as goal

-- src/told_laws.rt:12:1
pub returns-clause-runs : goal.returns-clause-runs
returns-clause-runs c = only_allowed_runs

-- src/told_laws.rt:12:1
pub returns-clause-adds : goal.returns-clause-adds
returns-clause-adds c = only_done_adds
