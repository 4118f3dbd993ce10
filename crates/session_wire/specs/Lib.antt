pub mod Frames
pub mod Fields
pub mod Beginnings
pub mod Replies
pub mod Answers
pub mod Laws
pub mod Inner
