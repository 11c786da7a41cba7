pub mod Standing
pub mod Handlers
