pub mod Choose
pub mod Told
pub mod Heights
pub mod Readings
pub mod Reach
pub mod Decided
pub mod Index
pub mod Finding
