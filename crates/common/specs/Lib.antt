pub mod Choice
pub mod Determined
pub mod Table
