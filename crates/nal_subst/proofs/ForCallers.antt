-- What the proofs of other crates may cite: a substitution of a name captures nothing.
pub use Rattle.nal_subst.proofs.Names.{name_defined}
