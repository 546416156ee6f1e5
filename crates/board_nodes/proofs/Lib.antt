pub mod Same
pub mod Examples
pub mod Table
pub mod Visits
pub mod Placed
pub mod Promises
