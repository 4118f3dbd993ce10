-- Words that only the contracts of private functions use. No statement about a session rests on them.
pub mod Serving
pub mod Steps
pub mod Sittings
pub mod Knowing
pub mod Boarding
pub mod ToldRows
