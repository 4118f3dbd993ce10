pub mod Deciding
pub mod Labels
pub mod Lists
pub mod Rules
pub mod Unreached
