pub mod Filters
pub mod Times
pub mod Turns
pub mod Telling
pub mod Kept
pub mod Little
pub mod Moves
pub mod Safe
