-- What the proofs of other crates may cite: what the answers make of an open case, and which causes they do not touch.
pub use Rattle.case_verdict.proofs.Judged.{affirmed, refused, unaffected}
