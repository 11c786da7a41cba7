pub mod Begun
pub mod Rested
