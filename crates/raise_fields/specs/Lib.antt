pub mod Meaning
pub mod RegionLaws
