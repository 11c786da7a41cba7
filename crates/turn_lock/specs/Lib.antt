pub mod History
pub mod Orderly
pub mod Plays
pub mod Account
