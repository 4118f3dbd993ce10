pub mod LineFlaws
pub mod PolicyFlaws
pub mod ProofFlaws
pub mod Inner
pub mod Laws
