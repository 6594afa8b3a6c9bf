pub mod Meaning
pub mod Code
pub mod AnswerLaws
pub mod EntryLaws
