pub mod Firsts
pub mod Takers
