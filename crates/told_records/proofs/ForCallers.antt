-- What the proofs of other crates may cite: what sessions had recorded is right lines, one behind the other; what they add is kept; and
-- what keepers were sent is audited.
pub use Rattle.told_records.proofs.Recorded.{nothing, one_behind_the_other, recorded_is_right}
pub use Rattle.told_records.proofs.Added.{added_are_kept}
pub use Rattle.told_records.proofs.Audited.{fresh_keepers_are_audited, right_keepers_are_audited}
