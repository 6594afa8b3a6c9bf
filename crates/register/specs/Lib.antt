pub mod Meaning
pub mod Search
pub mod Walk
pub mod WalkLaws
pub mod SearchLaws
