-- Words that only the contracts of private functions use. No statement about a command rests on them.
pub mod Forms
pub mod Hashes
pub mod Support
pub mod Wrongs
