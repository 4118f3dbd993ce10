-- Words that only the contracts of private functions use. No statement about a text rests on them.
pub mod Reading
pub mod Lines
