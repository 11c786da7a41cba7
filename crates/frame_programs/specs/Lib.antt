pub mod Made
pub mod Inside
pub mod Judged
pub mod Spaces
