use Rattle.journal_text.proofs.CutAnywhere.{cut_anywhere_is_recovered}
use Rattle.journal_text.proofs.CutPrinted.{whole_is_recovered}
use Rattle.journal_text.proofs.policy_laws.whole_policies_are_recovered.Goals as goal

pub returns : goal.returns
returns c = record { whole = whole_is_recovered; anywhere = cut_anywhere_is_recovered }
