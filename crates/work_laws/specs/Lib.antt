pub mod Bounds
pub mod InPlace
