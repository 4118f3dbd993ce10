pub mod Draws
pub mod Loads
pub mod Drills
pub mod Inner
