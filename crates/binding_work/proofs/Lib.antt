pub mod Sending
pub mod Firsts
pub mod Homing
pub mod Upward
pub mod Owning
pub mod Owned
