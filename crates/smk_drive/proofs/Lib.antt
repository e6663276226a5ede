pub mod Turns
mod Rows
mod Steps
mod Intermediate
