pub mod Meaning
pub mod FormLaws
pub mod LeadLaws
pub mod PlainLaws
