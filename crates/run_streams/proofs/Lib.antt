pub mod Given
pub mod Sending
pub mod Ends
pub mod ForCallers
