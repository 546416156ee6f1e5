pub mod Bodies
pub mod Stands
pub mod Fields
pub mod Determined
pub mod Examples
