pub mod Choices
pub mod Heads
pub mod Walked
pub mod Stands
