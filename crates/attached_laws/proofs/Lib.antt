pub mod Here
pub mod Keeps
pub mod Works
pub mod Events
pub mod Turns
pub mod Calls
pub mod Drivers
