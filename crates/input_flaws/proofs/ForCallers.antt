-- Laws of flaws, which the proofs of other crates may cite.
pub use Rattle.input_flaws.proofs.Told.{each_flaw}
