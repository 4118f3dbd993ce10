pub mod Chains
pub mod Answers
pub mod Inner
