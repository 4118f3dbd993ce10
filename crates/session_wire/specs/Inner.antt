-- Words that only the contracts of private functions use. No statement about the crate rests on them.
pub mod Judging
pub mod Replies
pub mod Taking
pub mod Writing
