pub mod Stretch
pub mod BuiltLaws
pub mod Outcome
