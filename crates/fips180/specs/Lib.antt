pub mod Sha256
pub mod Vectors
pub mod StepLaws
pub mod PaddingLaws
