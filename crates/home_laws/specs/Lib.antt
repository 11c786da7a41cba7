pub mod Rows
pub mod Homes
pub mod Standing
