pub mod Ceiling
pub mod Promises
