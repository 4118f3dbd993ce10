pub mod Bodies
pub mod CanonicalProof
pub mod Places
pub mod ProofText
pub mod RuleNames
pub mod Laws
pub mod Inner
