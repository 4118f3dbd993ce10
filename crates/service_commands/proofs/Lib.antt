pub mod ServiceEnds
pub mod LoggedEnds
pub mod Asides
pub mod ClientEnds
pub mod AuditedServices
pub mod ForCallers
