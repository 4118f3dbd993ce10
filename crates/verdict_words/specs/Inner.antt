-- Words that only the contracts of private functions use. No statement about a board rests on them.
pub mod Steps
pub mod Settling
pub mod Seats
