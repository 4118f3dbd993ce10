pub mod Findings
pub mod Snapped
