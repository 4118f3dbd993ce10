pub mod OneWord
pub mod Following
