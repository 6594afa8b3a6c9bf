pub mod Meaning
pub mod GateLaws
