pub mod Valuation
pub mod Unquantified
pub mod Reach
pub mod Inner
