pub mod Spelled
pub mod SpelledProofs
pub mod Asked
pub mod Written
pub mod WholeLines
pub mod FirstBytes
pub mod Begins
pub mod ForCallers
