pub mod History
pub mod Promises
pub mod Stories
