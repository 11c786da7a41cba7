pub mod Things
pub mod Stands
pub mod Sweep
pub mod Phases
pub mod Handlers
