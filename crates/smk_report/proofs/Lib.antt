pub mod Joining
mod Rows
