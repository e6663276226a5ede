pub mod Found
pub mod Sourced
