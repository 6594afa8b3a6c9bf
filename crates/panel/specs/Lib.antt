pub mod Meaning
pub mod BitLaws
pub mod FlagLaws
pub mod BlockLaws
