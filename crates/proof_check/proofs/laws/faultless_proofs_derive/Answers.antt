use Rattle.proof_check.proofs.Faultless.{faultless_goal}
use Rattle.proof_check.proofs.laws.faultless_proofs_derive.Goals as goal

pub returns : goal.returns
returns c = λ lines target some faultless. faultless_goal lines target faultless some
