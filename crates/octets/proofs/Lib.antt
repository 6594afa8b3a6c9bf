pub mod Examples
pub mod NumberSteps
