mod Turns
pub mod Steps
