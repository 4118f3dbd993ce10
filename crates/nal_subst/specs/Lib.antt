pub mod Substitution
pub mod Places
pub mod Laws
pub mod Inner
