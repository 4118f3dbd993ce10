use Rattle.case_reasons.proofs.Recorded.{explained_are_recorded}
use Rattle.case_reasons.proofs.laws.explained_calls_are_recorded.Goals as goal

pub returns : goal.returns
returns c = explained_are_recorded
