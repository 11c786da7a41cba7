pub mod EachBinding
pub mod Pausing
pub mod Written
