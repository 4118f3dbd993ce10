pub mod Sessions
pub mod Spelled
pub mod Deciding
pub mod Texts
pub mod Snaps
pub mod Meeting
pub mod ForCallers
pub mod Accessing
