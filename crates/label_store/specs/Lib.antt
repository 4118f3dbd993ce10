pub mod LabelRows
pub mod Held
pub mod Inner
