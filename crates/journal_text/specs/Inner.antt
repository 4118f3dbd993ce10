-- Words that only the contracts of private functions use. No statement about the crate rests on them.
pub mod PolicyReading
pub mod RequestForms
