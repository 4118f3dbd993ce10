-- Words that only the contracts of private functions use. No statement about the analysis rests on them.
pub mod Assumed
