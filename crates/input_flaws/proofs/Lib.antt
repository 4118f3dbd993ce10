pub mod LineFlaws
pub mod OneFlaw
pub mod FlawNames
pub mod Told
pub mod ForCallers
