-- Words that only the contracts of private functions use. No statement about a panel rests on them.
pub mod Addresses
pub mod Connections
pub mod Conversations
pub mod TreeCodes
