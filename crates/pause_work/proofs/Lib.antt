pub mod Places
pub mod Sums
pub mod Hands
pub mod Fronts
pub mod Rows
pub mod Ends
