pub mod Rooms
pub mod Filters
pub mod Miniports
pub mod Protocols
