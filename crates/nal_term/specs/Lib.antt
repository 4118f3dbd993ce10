pub mod Names
pub mod Trees
pub mod Free
pub mod Closed
pub mod Size
pub mod Secrets
pub mod TreeKeys
