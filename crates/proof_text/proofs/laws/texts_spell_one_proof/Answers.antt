use Rattle.proof_text.proofs.ForCallers.{one_proof}
use Rattle.proof_text.proofs.laws.texts_spell_one_proof.Goals as goal

pub returns : goal.returns
returns c = one_proof
