pub mod Rings
pub mod States
