pub mod Endings
pub mod Run
pub mod Halts
pub mod Promises
pub mod Examples
