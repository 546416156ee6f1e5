pub mod Tickets
pub mod Ledger
pub mod History
pub mod Promises
pub mod Stories
pub mod Empty
