pub mod Places
pub mod Rows
pub mod EventKinds
pub mod Sound
pub mod Steps
pub mod Journals
pub mod Held
pub mod ForCallers
