pub mod Walks
pub mod Slots
pub mod Filling
pub mod Lives
