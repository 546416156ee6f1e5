pub mod RoundTrips
pub mod Steps
pub mod Determined
