pub mod Indicating
pub mod Finding
pub mod Returning
