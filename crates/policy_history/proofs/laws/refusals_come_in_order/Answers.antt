use Rattle.policy_history.proofs.FirstRefusals.{first_refusal}
use Rattle.policy_history.proofs.laws.refusals_come_in_order.Goals as goal

pub returns-clause-first : goal.returns-clause-first
returns-clause-first c = first_refusal
