pub mod Playing
pub mod Determined
