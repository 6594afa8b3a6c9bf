pub mod EachKind
