pub mod Digits
pub mod Programs
pub mod Words
