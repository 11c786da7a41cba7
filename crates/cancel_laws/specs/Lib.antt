pub mod Cancelled
