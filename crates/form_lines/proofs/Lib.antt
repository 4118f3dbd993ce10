pub mod ForCallers
