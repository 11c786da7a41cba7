pub mod Rooms
pub mod Works
