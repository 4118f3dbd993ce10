mod Asked
pub mod ForCallers
mod Kept
pub mod PanelCalls
mod Reading
