pub mod Turn
pub mod Promises
