-- Words that only the contracts of private functions use. No statement about chains rests on them.
pub mod Numbers
pub mod Paths
pub mod Knowing
