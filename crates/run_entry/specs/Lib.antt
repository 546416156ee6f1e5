pub mod Entry
pub mod Promises
