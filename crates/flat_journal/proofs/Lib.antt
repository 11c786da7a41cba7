pub mod Grown
pub mod Laid
pub mod Copies
