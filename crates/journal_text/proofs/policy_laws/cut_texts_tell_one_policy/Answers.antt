use Rattle.journal_text.proofs.CutTexts.{one_kept}
use Rattle.journal_text.proofs.OneCut.{no_cut_policy_with_error, one_cut_error, one_cut_policy}
use Rattle.journal_text.proofs.policy_laws.cut_texts_tell_one_policy.Goals as goal

pub returns : goal.returns
returns c = record { kept = one_kept; one = one_cut_policy; no_error = no_cut_policy_with_error; one_error = one_cut_error }
