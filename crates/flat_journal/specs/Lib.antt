pub mod Payloads
pub mod Shown
pub mod Within
pub mod Flat
pub mod Rooms
pub mod Laid
pub mod Grows
pub mod Copied
