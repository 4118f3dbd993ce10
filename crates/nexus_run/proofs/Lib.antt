pub mod Words
mod FirstWords
mod LoadEnds
mod Commanded
mod TrueRuns
mod Running
mod LoggedRuns
mod ServiceAsks
mod Recordings
pub mod HandedOn
