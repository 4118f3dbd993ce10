pub mod States
pub mod Moves
pub mod Views
pub mod Runs
pub mod Justified
pub mod Machines
pub mod Inner
