pub mod Endings
pub mod Wholes
pub mod Runs
pub mod TakenUp
pub mod Examples
pub mod Plays
pub mod Determined
