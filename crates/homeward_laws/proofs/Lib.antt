pub mod Homes
pub mod Owners
pub mod Targets
