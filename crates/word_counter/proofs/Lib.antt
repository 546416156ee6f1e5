pub mod Instances
pub mod Determined
