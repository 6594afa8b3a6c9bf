-- The words of contracts inside the code: what its functions ask and promise. A reader of the entry points' contracts needs none of them.
pub mod LegalBook
pub mod LegalFields
pub mod LegalStation
pub mod Check
pub mod Moves
pub mod Does
