pub mod Refusals
pub mod Rested
pub mod Reseated
pub mod Seated
