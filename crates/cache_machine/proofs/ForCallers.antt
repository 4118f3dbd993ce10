-- What the proofs of other crates may cite: whose writes are accepted, what comes of a list of steps, and one step more.
pub use Rattle.cache_machine.proofs.Acts.{writes_own}
pub use Rattle.cache_machine.proofs.Ending.{outcome_of}
unfoldable pub use Rattle.cache_machine.proofs.Running.{happens}
pub use Rattle.cache_machine.proofs.Running.{head_after, none_taken, one_more_taken}
