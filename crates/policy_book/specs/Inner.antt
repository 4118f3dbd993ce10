-- What only private parts of the crate use.
pub mod Staying
pub mod Kept
pub mod Adding
pub mod Visits
