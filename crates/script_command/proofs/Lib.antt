pub mod ScriptEnds
pub mod ForCallers
