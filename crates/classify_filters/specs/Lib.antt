pub mod Blocking
pub mod States
