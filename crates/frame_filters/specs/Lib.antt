pub mod Filters
pub mod Originals
pub mod States
