use Rattle.session_core.proofs.RisingPoints.{seen_too_early}
use Rattle.session_core.proofs.ToldRefusals.{allowed_then_denied, deleted_still_allowed, done_without_entry, first_call_hits, yes_used_twice}
use Rattle.session_core.proofs.worked_days.wrong_answers_are_never_told.Goals as goal

pub returns-clause-done : goal.returns-clause-done
returns-clause-done c = done_without_entry

pub returns-clause-first : goal.returns-clause-first
returns-clause-first c = first_call_hits

pub returns-clause-denied : goal.returns-clause-denied
returns-clause-denied c = allowed_then_denied

pub returns-clause-allowed : goal.returns-clause-allowed
returns-clause-allowed c = deleted_still_allowed

pub returns-clause-twice : goal.returns-clause-twice
returns-clause-twice c = yes_used_twice

pub returns-clause-early : goal.returns-clause-early
returns-clause-early c = seen_too_early
