pub mod Mutes
pub mod Sorts
pub mod Statuses
pub mod Alike
pub mod Places
pub mod Sights
pub mod Stages
