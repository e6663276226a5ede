pub mod Changing
pub mod Putting
pub mod Locking
pub mod Unlocking
