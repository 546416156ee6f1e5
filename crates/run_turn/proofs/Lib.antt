pub mod Determined
pub mod Turns
