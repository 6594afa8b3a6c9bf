pub mod Meaning
pub mod WholeLaws
