pub mod Boundary
pub mod Examples
