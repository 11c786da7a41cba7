pub mod Indications
pub mod Returns
