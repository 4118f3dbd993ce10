pub mod Tokens
pub mod Canonical
pub mod Grammar
pub mod Errors
pub mod Laws
pub mod Inner
