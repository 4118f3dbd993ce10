-- What the proofs of other crates may cite: what is read of a line, as a fact of the line's plain value, and a principal without a port.
pub use Rattle.proof_check.proofs.LineFacts.{read_line, no_line, same_line, one_more}
pub use Rattle.proof_check.proofs.Lookups.{no_port}
pub use Rattle.proof_check.proofs.AllowedCases.{allowed_supported}
