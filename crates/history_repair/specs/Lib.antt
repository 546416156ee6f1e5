pub mod Promises
pub mod Stories
