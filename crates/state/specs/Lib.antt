pub mod Meaning
pub mod ActLaws
pub mod ClearLaws
