-- UTF-8, white space, causes, keys, and what the parser reads. For the code of these, and for what a call keeps.
pub mod Utf8
pub mod Utf8Grammar
pub mod White
pub mod Trim
pub mod Cause
pub mod Key
pub mod PutString
pub mod ParsedFields
pub mod ParsedLegal
