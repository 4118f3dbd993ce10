-- What the proofs of other crates may cite: lines of right records behind the text of a policy are audited.
pub use Rattle.audit_form.proofs.RightLines.{right_lines_are_audited}
