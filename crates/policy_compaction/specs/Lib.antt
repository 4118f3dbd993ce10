pub mod Slots
pub mod Kept
pub mod Standing
pub mod Compactions
pub mod Inner
