pub mod Answers
pub mod Counts
pub mod Names
pub mod Places
pub mod Unchanged
pub mod ForCallers
