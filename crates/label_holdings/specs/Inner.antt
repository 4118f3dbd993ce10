-- The words of the private functions.
pub mod Steps
