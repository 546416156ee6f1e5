pub mod Writing
pub mod Boundary
pub mod Promises
pub mod Examples
