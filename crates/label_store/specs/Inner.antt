-- Words that only the invariant of a store and the contracts of private functions use. No statement about a store rests on them.
pub mod Kept
