pub mod Asks
pub mod ForCallers
pub mod Judged
