pub mod Places
pub mod Trim
pub mod Dotted
pub mod Ways
pub mod Xor
pub mod Spaces
