pub mod Shelved
pub mod Held
