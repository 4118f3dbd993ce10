pub mod Words
pub mod TrustForm
pub mod Answers
pub mod Inner
