-- Words that only the contracts of private functions use. No statement about a substitution rests on them.
pub mod Below
