pub mod Commands
pub mod Arguments
pub mod Lasting
pub mod LoadRuns
pub mod Commanded
pub mod Runs
pub mod Notes
