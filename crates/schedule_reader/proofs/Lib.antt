pub mod Determined
pub mod Promises
