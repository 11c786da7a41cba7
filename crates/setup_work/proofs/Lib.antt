pub mod Protocols
pub mod Rows
pub mod Halted
pub mod Initialized
pub mod Positions
pub mod Steps
