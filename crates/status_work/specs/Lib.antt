pub mod Rooms
pub mod Works
pub mod Told
