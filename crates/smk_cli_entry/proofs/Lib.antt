pub mod Stats
pub mod Firsts
pub mod Joins
pub mod Loads
