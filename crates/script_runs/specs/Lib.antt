pub mod Built
pub mod Drivers
