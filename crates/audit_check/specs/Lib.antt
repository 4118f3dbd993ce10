pub mod Records
pub mod Beginnings
pub mod Audits
pub mod Laws
pub mod Inner
