pub mod Outlines
pub mod Reads
pub mod Usual
