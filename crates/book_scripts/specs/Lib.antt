pub mod Scripts
pub mod Orders
pub mod Asked
pub mod Laws
pub mod Served
