pub mod Slots
pub mod Map
pub mod Promises
