pub mod Space
pub mod Tells
