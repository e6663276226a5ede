pub mod Numbers
pub mod Links
pub mod Steps
pub mod Folders
pub mod Stepping
pub mod Once
pub mod Heights
pub mod Queries
