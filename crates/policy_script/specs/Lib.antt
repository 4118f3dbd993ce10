pub mod Inner
pub mod ScriptForm
pub mod ScriptText
