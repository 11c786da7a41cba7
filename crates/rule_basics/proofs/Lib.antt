pub mod Lists
pub mod Lives
pub mod Apart
pub mod Each
pub mod Counts
pub mod Finds
pub mod Plain
pub mod Numbered
