pub mod Entries
pub mod Tenures
pub mod Holdings
pub mod Inner
