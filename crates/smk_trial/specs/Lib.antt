pub mod Editing
pub mod Running
pub mod Trying
pub mod Lines
pub mod Telling
