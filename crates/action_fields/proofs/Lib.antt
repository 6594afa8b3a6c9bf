pub mod EachScope
