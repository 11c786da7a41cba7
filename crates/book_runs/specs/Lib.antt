pub mod Adds
pub mod Runs
