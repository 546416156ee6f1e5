pub mod OnlyOne
pub mod Choices
pub mod Tables
pub mod But
