-- Words that only the contracts of private functions use. No statement about a source, a sink, a link or a door rests on them.
pub mod Feeding
pub mod Queues
