pub mod Ahead
pub mod Reports
