pub mod Meaning
pub mod RoomLaws
pub mod SearchLaws
