pub mod Closed
pub mod EntryRows
pub mod NamePlaces
pub mod Places
pub mod KeptPlaces
pub mod ForCallers
