pub mod QuestionLines
pub mod ExplainForm
pub mod ExplainedTexts
pub mod Answers
pub mod Inner
