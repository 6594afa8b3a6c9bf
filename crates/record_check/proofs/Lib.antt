pub mod Slots
pub mod Payloads
