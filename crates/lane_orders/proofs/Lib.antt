mod Lanes
mod Moves
pub mod Kept
