pub mod FirstLines
pub mod Handled
