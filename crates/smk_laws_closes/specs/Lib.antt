pub mod Endings
pub mod Learning
pub mod Closes
pub mod Tending
pub mod Lines
pub mod Turns
pub mod Ending
