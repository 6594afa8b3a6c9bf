pub mod Stretches
pub mod EventStretches
pub mod Lent
