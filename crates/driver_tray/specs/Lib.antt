pub mod Away
pub mod Tray
pub mod Inside
pub mod Waits
