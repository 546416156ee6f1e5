pub mod Cares
pub mod Rest
pub mod Stories
