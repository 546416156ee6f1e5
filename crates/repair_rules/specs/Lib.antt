pub mod Repair
pub mod Log
pub mod Promises
pub mod Examples
