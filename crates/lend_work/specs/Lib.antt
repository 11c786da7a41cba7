pub mod Visits
pub mod Climbs
pub mod Bindings
pub mod Lends
