pub mod Stories
pub mod Nodes
pub mod Inward
pub mod Gates
pub mod Demand
