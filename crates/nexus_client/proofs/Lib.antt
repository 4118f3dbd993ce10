pub mod Lengths
pub mod Peers
pub mod Reading
pub mod Talking
pub mod TalkLaws
pub mod ForCallers
