-- Words that only the contracts of private functions and the invariant of a journal use. No statement about a journal rests on them.
pub mod Early
pub mod OneLine
pub mod Sound
pub mod Copies
pub mod Kept
pub mod Named
