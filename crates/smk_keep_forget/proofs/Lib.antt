pub mod Stores
pub mod Forgetting
pub mod Loads
pub mod Turns
pub mod Lines
pub mod Going
pub mod Telling
pub mod Around
