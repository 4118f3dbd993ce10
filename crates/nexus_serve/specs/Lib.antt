pub mod Views
pub mod Means
pub mod Workers
pub mod Services
pub mod TrueReports
pub mod Hosting
pub mod Inner
