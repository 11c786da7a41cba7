pub mod Lists
pub mod Sent
pub mod Ends
pub mod Table
