pub mod Waits
pub mod Determined
