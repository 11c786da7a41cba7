pub mod Found
pub mod Tells
