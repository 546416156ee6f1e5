pub mod Passing
pub mod Stores
pub mod Determined
