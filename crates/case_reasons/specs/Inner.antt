-- Words that only the contracts of private functions use. No statement about an explanation rests on them.
pub mod Deeds
pub mod Answered
pub mod Calls
