use Rattle.case_reasons.proofs.OneExplanation.{one_explanation}
use Rattle.case_reasons.proofs.laws.a_call_has_one_explanation.Goals as goal

pub returns : goal.returns
returns c = one_explanation
