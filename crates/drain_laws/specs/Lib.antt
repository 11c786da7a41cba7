pub mod Drains
pub mod Resting
pub mod Serving
