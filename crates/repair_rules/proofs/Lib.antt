pub mod Cares
pub mod Passes
pub mod Logs
pub mod Moves
pub mod Ends
pub mod Touches
pub mod Short
pub mod Examples
