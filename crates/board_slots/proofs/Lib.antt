pub mod Bits
pub mod Maps
pub mod Promises
pub mod Used
