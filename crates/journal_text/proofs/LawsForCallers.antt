-- The laws of policy texts, which the proofs of other crates may cite: what is printed is read, whole and cut; no text is cut to two
-- policies; and whole lines in front of a text.
pub use Rattle.journal_text.proofs.CutAnywhere.{IsHalfway, halfway}
pub use Rattle.journal_text.proofs.CutPrinted.{cut_end_is_recovered, cut_entry_is_left_out, front_whole, last_line_is_left_out, short_line_is_left_out, whole_is_recovered}
pub use Rattle.journal_text.proofs.CutTexts.{feed_within, one_kept}
pub use Rattle.journal_text.proofs.OneCut.{one_cut_policy}
pub use Rattle.journal_text.proofs.PrintedPolicies.{printed_is_read}
