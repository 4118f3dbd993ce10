pub mod LogCalls
pub mod CallLogs
pub mod LogLines
pub mod LineLogs
pub mod Inner
