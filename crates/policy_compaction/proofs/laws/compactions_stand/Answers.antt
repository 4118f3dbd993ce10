use Rattle.policy_compaction.proofs.Standing.{compactions_stand}
use Rattle.policy_compaction.proofs.laws.compactions_stand.Goals as goal

pub returns : goal.returns
returns c = compactions_stand
