-- Words that only the contracts of private functions use. No statement about the guard rests on them.
pub mod Stages
