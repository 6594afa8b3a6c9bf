pub mod EachOperation
pub mod Whole
