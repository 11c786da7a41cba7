pub mod Ended
pub mod Events
