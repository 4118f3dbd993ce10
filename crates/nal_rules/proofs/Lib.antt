pub mod Same
pub mod Discharge
pub mod Weakened
pub mod Consistent
pub mod OneNamed
pub mod OneVerdict
pub mod ForCallers
