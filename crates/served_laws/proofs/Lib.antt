pub mod Finds
pub mod Asked
pub mod Dones
pub mod Homes
pub mod Served
