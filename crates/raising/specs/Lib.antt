pub mod Meaning
pub mod RaiseLaws
