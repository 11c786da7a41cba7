pub mod Counted
pub mod Text
pub mod Left
