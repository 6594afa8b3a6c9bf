pub mod StoredLength
pub mod Writing
pub mod WritingLaws
