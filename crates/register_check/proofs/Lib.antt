pub mod WalkLaws
pub mod JudgeLaws
