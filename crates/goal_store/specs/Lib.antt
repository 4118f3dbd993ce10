pub mod GoalRows
pub mod Held
pub mod Inner
