pub mod Values
pub mod Meaning
pub mod Change
pub mod LentLaws
