pub mod Between
pub mod Added
pub mod Pumped
pub mod Paused
pub mod Restarted
pub mod Opened
pub mod Called
pub mod Ended
