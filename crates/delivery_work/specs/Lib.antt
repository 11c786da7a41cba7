pub mod Takers
pub mod Desks
pub mod Works
