pub mod Site
pub mod Answers
pub mod Visit
pub mod Leaves
pub mod Table
pub mod Promises
pub mod Examples
