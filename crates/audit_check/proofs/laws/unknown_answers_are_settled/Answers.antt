use Rattle.audit_check.proofs.Unknowns.{unknown_answers}
use Rattle.audit_check.proofs.laws.unknown_answers_are_settled.Goals as goal

pub returns : goal.returns
returns c = unknown_answers
