pub mod ProveForm
pub mod Answers
pub mod Inner
