pub mod Attached
pub mod Drivers
