pub mod LineFrames
pub mod Imports
pub mod TalkInputs
pub mod Talks
pub mod TalkLaws
pub mod Inner
