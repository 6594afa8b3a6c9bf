pub mod Meaning
pub mod ListLaws
