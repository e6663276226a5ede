pub mod Gathering
pub mod Seeing
pub mod Guards
pub mod Needs
pub mod Putting
