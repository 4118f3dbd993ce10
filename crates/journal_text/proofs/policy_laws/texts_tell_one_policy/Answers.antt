use Rattle.journal_text.proofs.OnePolicy.{no_policy_with_error, one_policy, one_policy_error}
use Rattle.journal_text.proofs.policy_laws.texts_tell_one_policy.Goals as goal

pub returns : goal.returns
returns c = record { one = one_policy; no_error = no_policy_with_error; one_error = one_policy_error }
