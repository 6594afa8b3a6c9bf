-- A record's slots: written, read back, tested, compared, changed. For the code that writes and tests records, and for the laws of stations.
pub mod Join
pub mod Slot
pub mod Object
pub mod Scope
pub mod FieldTests
pub mod Parts
pub mod Payloads
pub mod ChangedSlot
pub mod Identity
