pub mod Numbers
pub mod Calls
pub mod Turns
pub mod Along
pub mod Alone
mod OneLines
mod ShortProofs
mod RightLines
mod Recorded
mod Added
mod Audited
pub mod ForCallers
mod Peers
mod PeersBeside
mod PeersAlone
