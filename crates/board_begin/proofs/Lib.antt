pub mod Begins
pub mod Determined
