pub mod Ceiling
pub mod Determined
