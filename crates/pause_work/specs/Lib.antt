pub mod Positions
pub mod Hands
