pub mod Within
pub mod Works
pub mod Jobs
pub mod Others
pub mod Cancels
