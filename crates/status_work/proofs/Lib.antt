pub mod Firsts
pub mod Seen
pub mod Heard
pub mod Telling
pub mod Indicated
