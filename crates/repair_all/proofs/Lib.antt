pub mod Repairing
pub mod Determined
