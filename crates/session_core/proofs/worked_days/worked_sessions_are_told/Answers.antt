use Rattle.session_core.proofs.ToldRows.{allowed_and_kept, allowed_and_then_deleted, allowed_and_other_said}
use Rattle.session_core.proofs.WorkedDenials.{wrong_line_kept, wrong_line_and_then_cleared}
use Rattle.session_core.proofs.WorkedObjects.{other_region_leaves, same_region_raises}
use Rattle.session_core.proofs.WorkedAsks.{asked_each_time}
use Rattle.session_core.proofs.WorkedSeen.{changes_are_seen}
use Rattle.session_core.proofs.WorkedGreetings.{greeted_once, not_recorded_is_refused}
use Rattle.session_core.proofs.worked_days.worked_sessions_are_told.Goals as goal

pub returns-clause-kept : goal.returns-clause-kept
returns-clause-kept c = allowed_and_kept

pub returns-clause-deleted : goal.returns-clause-deleted
returns-clause-deleted c = allowed_and_then_deleted

pub returns-clause-other : goal.returns-clause-other
returns-clause-other c = allowed_and_other_said

pub returns-clause-wrong : goal.returns-clause-wrong
returns-clause-wrong c = wrong_line_kept

pub returns-clause-cleared : goal.returns-clause-cleared
returns-clause-cleared c = wrong_line_and_then_cleared

pub returns-clause-far : goal.returns-clause-far
returns-clause-far c = other_region_leaves

pub returns-clause-near : goal.returns-clause-near
returns-clause-near c = same_region_raises

pub returns-clause-asked : goal.returns-clause-asked
returns-clause-asked c = asked_each_time

pub returns-clause-seen : goal.returns-clause-seen
returns-clause-seen c = changes_are_seen

pub returns-clause-greeted : goal.returns-clause-greeted
returns-clause-greeted c = greeted_once

pub returns-clause-unrecorded : goal.returns-clause-unrecorded
returns-clause-unrecorded c = not_recorded_is_refused
