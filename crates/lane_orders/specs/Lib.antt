pub mod Orders
pub mod Nexts
