-- Words that only the invariant of a machine and the contracts of private functions use. No statement about a machine rests on them.
pub mod Words
pub mod MoveFunctions
