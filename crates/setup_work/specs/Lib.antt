pub mod SetUp
pub mod Floors
