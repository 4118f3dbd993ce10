pub mod DoorCalls
pub mod ForCallers
pub mod Told
mod Waiting
