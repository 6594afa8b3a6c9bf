pub mod HexLaws
pub mod Fed
pub mod Rooms
