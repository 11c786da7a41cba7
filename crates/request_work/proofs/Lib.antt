pub mod Asked
pub mod Gives
pub mod Forwarded
