pub mod Folders
mod Rows
pub mod Inputs
pub mod Heights
