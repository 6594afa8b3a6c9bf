pub mod Meaning
pub mod ReplyLaws
