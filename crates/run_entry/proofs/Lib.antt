pub mod Stores
pub mod ReadsBack
pub mod Determined
