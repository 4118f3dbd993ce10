-- Words that only the contracts of private functions use, of the crates that read inputs. No statement about a run rests on them.
pub mod Unread
