pub mod AnswerWords
pub mod ItemsText
pub mod Indented
