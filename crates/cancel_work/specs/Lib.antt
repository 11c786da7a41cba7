pub mod Cancels
