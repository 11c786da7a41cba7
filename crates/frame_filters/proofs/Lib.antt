pub mod Passing
pub mod Homeward
pub mod Taken
