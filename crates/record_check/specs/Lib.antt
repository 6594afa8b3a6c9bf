pub mod Check
pub mod Ruler
pub mod RulerLaws
pub mod PlainLaws
