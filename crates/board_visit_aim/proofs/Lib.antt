pub mod Aims
pub mod Determined
