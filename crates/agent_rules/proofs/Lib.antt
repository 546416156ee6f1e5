pub mod Phases
pub mod Examples
pub mod Table
pub mod Care
