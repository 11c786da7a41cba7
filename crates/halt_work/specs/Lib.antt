pub mod Risen
pub mod Halted
