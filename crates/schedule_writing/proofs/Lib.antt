pub mod Numbers
pub mod Records
pub mod Untouched
pub mod RoundTrips
pub mod Schedules
pub mod Examples
