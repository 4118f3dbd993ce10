use Rattle.proof_text.proofs.ForCallers.{one_proof_error, no_proof_with_error}
use Rattle.proof_text.proofs.laws.refused_texts_have_one_error.Goals as goal

pub returns-clause-one : goal.returns-clause-one
returns-clause-one c = one_proof_error

pub returns-clause-no_proof : goal.returns-clause-no_proof
returns-clause-no_proof c = no_proof_with_error
