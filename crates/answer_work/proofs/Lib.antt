pub mod Asked
pub mod Bound
pub mod Ended
pub mod Finished
pub mod Reported
pub mod Telling
