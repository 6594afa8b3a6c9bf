-- Consequences of the definition, proved. None need be read to know what is claimed of the entry points.
pub mod Text
pub mod Book
pub mod Record
pub mod Steps
pub mod Twins
pub mod Table
