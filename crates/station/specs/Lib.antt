pub mod StepLaws
pub mod PanelLaws
pub mod Theorem
