pub mod Behind
pub mod Determined
