pub mod VerdictTexts
pub mod AnswerLetters
pub mod RecordLines
pub mod Reading
pub mod RecordWriting
pub mod RightLines
pub mod ForCallers
