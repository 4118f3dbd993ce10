-- Words that only the invariant of a store uses. No statement about a store rests on them.
pub mod Places
