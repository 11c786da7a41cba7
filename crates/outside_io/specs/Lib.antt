pub mod Edges
pub mod Memory
