pub mod Fields
pub mod Determined
