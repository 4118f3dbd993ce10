pub mod Labels
pub mod Loading
pub mod Drilling
mod DrawRows
