pub mod Meaning
pub mod Refusal
pub mod CaseLaws
pub mod Opening
pub mod OpeningLaws
pub mod PartLaws
