pub mod Schedule
pub mod Promises
pub mod Examples
