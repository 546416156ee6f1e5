pub mod Kinds
pub mod Promises
