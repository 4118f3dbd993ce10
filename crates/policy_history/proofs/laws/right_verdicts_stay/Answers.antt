use Rattle.policy_history.proofs.RightLaw.{right_stays}
use Rattle.policy_history.proofs.laws.right_verdicts_stay.Goals as goal

pub returns : goal.returns
returns c = right_stays
