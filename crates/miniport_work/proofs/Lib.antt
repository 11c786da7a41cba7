pub mod Firsts
pub mod Ended
pub mod Sends
pub mod Returns
pub mod Transmits
