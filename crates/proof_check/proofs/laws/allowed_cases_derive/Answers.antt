use Rattle.proof_check.proofs.AllowedCases.{allowed_supported}
use Rattle.proof_check.proofs.laws.allowed_cases_derive.Goals as goal

pub returns : goal.returns
returns c = allowed_supported
