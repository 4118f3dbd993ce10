pub mod Reading
pub mod Runs
pub mod Flaws
pub mod Refusals
pub mod Ends
pub mod Telling
pub mod Inner
