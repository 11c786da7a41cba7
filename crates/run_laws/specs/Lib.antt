pub mod Turns
pub mod Opening
pub mod Pumping
pub mod Pausing
pub mod Ending
pub mod Calls
pub mod Wrong
pub mod Crossing
