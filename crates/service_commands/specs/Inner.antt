-- Words that only the contracts of private functions use. No statement about a service rests on them.
pub mod ServiceEnds
