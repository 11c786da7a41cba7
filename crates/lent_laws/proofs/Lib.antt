pub mod Fair
pub mod Lent
