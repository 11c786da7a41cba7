pub mod Bare
pub mod Inside
pub mod Positions
