pub mod Walks
pub mod Changes
pub mod Sending
