-- What other crates may cite of who holds which label.
-- the rows of labels are from the entries of a legal list, whose numbers theirs are
pub use Rattle.label_holdings.proofs.Rows.{AreFrom}
pub use Rattle.label_holdings.proofs.Sound.{IsSound, sound_all, sound_at, sound_more}
-- an entry that was read, and the label that it transfers
pub use Rattle.label_holdings.proofs.Journals.{entry_there, given_within}
