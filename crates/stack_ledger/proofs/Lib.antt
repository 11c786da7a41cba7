pub mod Bare
pub mod Begun
pub mod Positions
