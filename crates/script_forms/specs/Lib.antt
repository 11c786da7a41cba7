pub mod Call
pub mod Filter
pub mod Results
pub mod Script
pub mod Stack
pub mod Values
