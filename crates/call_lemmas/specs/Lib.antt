pub mod InCall
pub mod Served
