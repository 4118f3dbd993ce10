use Rattle.journal_text.proofs.PrintedPolicies.{printed_is_read}
use Rattle.journal_text.proofs.policy_laws.printed_policies_are_read_again.Goals as goal

pub returns : goal.returns
returns c = printed_is_read
