pub mod ToldRecords
pub mod Recordings
pub mod Audited
pub mod PeerSessions
