pub mod Homeward
