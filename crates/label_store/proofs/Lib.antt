pub mod LiveRows
pub mod HeldLabels
pub mod HeldCounts
pub mod RowFacts
