mod Views
mod Working
mod Numbering
mod Seating
mod Readiness
mod Recorders
mod Lists
mod Growing
mod Gathering
mod Joining
mod Seeing
mod Finishing
mod Texts
mod Crossing
mod TruthOfReports
mod KeptEntries
pub mod AuditOfRecords
pub mod ForCallers
