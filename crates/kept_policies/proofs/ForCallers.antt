-- What other crates may cite of the laws of what is read.
-- what a text spells keeps the limits of its parts; and so does a formula in any number of levels
pub use Rattle.kept_policies.proofs.Spelled.{spelled_formulas, spelled_spellable, spelled_terms}
pub use Rattle.kept_policies.proofs.SpelledProofs.{spelled_proofs}
-- the event that a request of a frame asks for is kept, and so is that of a request of a line
pub use Rattle.kept_policies.proofs.Asked.{asked_events, written_events}
-- what is read of a policy, whole or cut, is what the program writes of one
pub use Rattle.kept_policies.proofs.Written.{front_is_written, recovered_is_written}
-- what is recovered begins with what was written
pub use Rattle.kept_policies.proofs.Begins.{recovered_begins, recovered_end, recovered_entry, recovered_grows}
