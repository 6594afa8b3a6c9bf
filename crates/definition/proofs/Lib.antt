-- what follows from the definition
pub mod Laws
