pub mod Leaving
pub mod Was
pub mod Fresh
pub mod Rested
