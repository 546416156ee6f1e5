pub mod Examples
pub mod Asks
