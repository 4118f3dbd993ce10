pub mod Services
pub mod Logged
pub mod Clients
pub mod Notes
pub mod Inner
