pub mod Life
pub mod Care
pub mod Answers
pub mod Examples
pub mod Edges
pub mod Table
pub mod CarePromises
