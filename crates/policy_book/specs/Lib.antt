pub mod Matter
pub mod Books
pub mod Writes
pub mod Snaps
pub mod Access
pub mod Inner
