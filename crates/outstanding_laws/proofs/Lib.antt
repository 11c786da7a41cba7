pub mod Rows
pub mod Routes
pub mod Moves
pub mod Events
pub mod Turns
pub mod Ways
pub mod Keepers
pub mod Counts
