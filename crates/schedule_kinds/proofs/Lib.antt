pub mod Bodies
pub mod EachKind
