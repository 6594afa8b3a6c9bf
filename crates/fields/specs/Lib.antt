pub mod Reading
pub mod ReadingLaws
pub mod Moved
pub mod MovedLaws
pub mod BytesLaws
pub mod StringKind
pub mod StringKindLaws
