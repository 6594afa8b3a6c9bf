pub mod Meaning
pub mod ChangeLaws
