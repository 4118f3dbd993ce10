pub mod QuestionLines
pub mod LineTexts
pub mod Reading
