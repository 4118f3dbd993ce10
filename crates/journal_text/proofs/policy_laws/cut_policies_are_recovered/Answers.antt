use Rattle.journal_text.proofs.CutPrinted.{cut_end_is_recovered, cut_entry_is_left_out, last_line_is_left_out, short_line_is_left_out}
use Rattle.journal_text.proofs.policy_laws.cut_policies_are_recovered.Goals as goal

pub returns : goal.returns
returns c = record { line = last_line_is_left_out; short = short_line_is_left_out; entry = cut_entry_is_left_out; end = cut_end_is_recovered }
