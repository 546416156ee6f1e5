pub mod Parts
pub mod Determined
