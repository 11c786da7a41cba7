pub mod Parts
pub mod Firsts
pub mod Asked
pub mod Worked
pub mod Turned
