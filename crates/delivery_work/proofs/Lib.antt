pub mod Counting
pub mod Lent
pub mod Placed
pub mod Further
pub mod Written
pub mod Chained
pub mod Readied
pub mod Worked
