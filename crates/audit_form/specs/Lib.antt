pub mod VerdictTexts
pub mod RecordLines
pub mod CallLines
pub mod AuditForm
pub mod Answers
pub mod ReplyRecords
pub mod AuditLaws
pub mod Inner
