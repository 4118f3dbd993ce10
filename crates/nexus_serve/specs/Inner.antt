-- Words that only the contracts of private functions use. No statement about a service rests on them.
pub mod Working
pub mod Desks
pub mod Gathering
pub mod Serving
pub mod Joining
pub mod Reporting
pub mod Sharing
