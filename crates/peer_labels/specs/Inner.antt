-- Words of the private functions.
pub mod Reading
pub mod Saying
