pub mod Only
pub mod Back
pub mod Run
