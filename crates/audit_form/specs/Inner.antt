-- Words that only the contracts of private functions use, and of those that read a part of an input. No statement about an input rests on them but by what they unfold to.
pub mod Verdicts
pub mod Reading
pub mod Writing
